-- `LayerOffer::energy_input` meets its contract: the Sum2 of the one offer is that of all.
use mathlib.Core.Path.{sym}
use denote.Floats.{passes}
use Rattle.heating.proofs.Offers.{input_own}
use borrow.Author.Rules.{rules}
use Rattle.heating.proofs.heat.LayerOffer.energy_input.Goals as goal

pub returns : goal.returns
returns c =
    rw (c.total_of.ensures, c.add_term.ensures, c.start.ensures) (sym (input_own _ _ (passes _ (search rules)) _ (search rules)))
