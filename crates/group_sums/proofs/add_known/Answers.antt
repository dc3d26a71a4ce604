-- `add_known` meets its contract (01, Arithmetic underneath): equal terms are the same but for the sign of a zero.
use mathlib.Core.Path.{refl}
use mathlib.Core.Logic.{inr}
use denote.Floats.{passes}
use Rattle.numeric.proofs.SameValue.{equal_same}
use Rattle.group_sums.proofs.add_known.Goals as goal

pub returns-then-c-b : goal.returns-then-c-b
returns-then-c-b c =
    inr (record { is_known = refl; same_value = equal_same c.args.c c.args.b (passes _ c.well_formed.1.1.0.1) (passes _ c.well_formed.1.0.1) c.if-c-b.true })
