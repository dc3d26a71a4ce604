-- `add_smaller` meets its contract (01, Arithmetic underneath): the shorter way to work what a sum loses, by Sterbenz's lemma.
use mathlib.Core.Path.{refl}
use denote.Floats.{passes}
use Rattle.shorter_sums.proofs.FastTwoSum.{fast_two_sum}
use Rattle.shorter_sums.proofs.add_smaller.Goals as goal

pub returns : goal.returns
returns c =
    record { s_is = refl; accumulates = λ h l f. fast_two_sum c.args.a c.args.b (passes _ c.well_formed.0.1.1.0.1) (passes _ c.well_formed.1.0.1) h l (passes _ f) }
