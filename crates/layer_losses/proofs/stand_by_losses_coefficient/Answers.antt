-- `stand_by_losses_coefficient` meets its contract: the literals are the whole numbers of the definition.
use mathlib.Core.Path.{refl}
use lib.Ieee.{of_bits, of_int, round}
use Rattle.layer_losses.specs.Loss.{standby_coefficient}
use Rattle.layer_losses.proofs.stand_by_losses_coefficient.Goals as goal

pub returns : goal.returns
unfolding standby_coefficient of_bits of_int round
returns c = refl
