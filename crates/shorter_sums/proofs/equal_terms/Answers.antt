-- `equal_terms` meets its contract (01, Arithmetic underneath): from one term, from four or from five on.
use mathlib.Core.Path.{◌≡◌}
use native.Mathlib.Omega.{arith}
use denote.Floats.{passes}
use Rattle.shorter_sums.proofs.FastTwoSum.{equals_one}
use Rattle.shorter_sums.proofs.EqualTerms.{four_equals, five_equals}
use Rattle.shorter_sums.proofs.equal_terms.Goals as goal

pub returns-then-m-lt4 : goal.returns-then-m-lt4
returns-then-m-lt4 c = λ h f i. ((c.with_more.ensures (equals_one c.args.b (passes _ c.well_formed.0.1))).1 h (passes _ f)).1 i

pub returns-then-m-eq4 : goal.returns-then-m-eq4
returns-then-m-eq4 c = λ h f i.
    let all : c.args.m ≡ 4 = omega arith in
    rw all (((four_equals c.args.b (passes _ c.well_formed.0.1)).1 h (passes _ f)).1 i)

pub returns : goal.returns
returns c = λ h f i. ((c.with_more-2.ensures (five_equals c.args.b (passes _ c.well_formed.0.1))).1 h (passes _ f)).1 i
