-- States sums over a running group's layers alone, from bottom to below end, and the guess at a total (01, Mix). No definition of a call cites this.
use Rattle.std.specs.Prelude.{ℕ, ◌-◌, true, cond, ◌⊎◌, ◌≡◌, List, eqb, get_or, Float, Option, Some, None}
use Rattle.std.specs.Float.{nan}
use Rattle.std.specs.Float.Ieee.Scale.{finite}
use Rattle.numeric.specs.Double.{◌⊕◌, ◌⊛◌, one_f, dbl, ◌⊖◌, four_f}
use Rattle.numeric.specs.Zeros.{SameValue}
use Rattle.numeric.specs.Iterate.{iterate}
use Rattle.numeric.specs.Sum2.{nothing_added, accumulate, add_at}
use Rattle.numeric.specs.declared.sum2.Accumulator.{Accumulator}

-- of volume
abbrev pub volume_sum : List Float → ℕ → ℕ → Accumulator
volume_sum vol bottom end = iterate (add_at (λ (k : ℕ). get_or vol k nan ⊛ one_f)) (end - bottom) bottom nothing_added

-- volume × temperature, where all of them have the temperature x
abbrev pub heat_sum : List Float → Float → ℕ → ℕ → Accumulator
heat_sum vol x bottom end = iterate (add_at (λ (k : ℕ). get_or vol k nan ⊛ x)) (end - bottom) bottom nothing_added

-- a sum over the group's layers, each of whose products is p: the group's heat; or, where it is finite, so many times p added
abbrev pub EvenSum : List Float → Float → Float → ℕ → ℕ → Accumulator → Type 0
EvenSum vol x p bottom end r =
    (r ≡ heat_sum vol x bottom end)
    ⊎ (finite r.s ≡ true → r ≡ iterate (add_at (λ (k : ℕ). p)) (end - bottom) bottom nothing_added)

-- r is `known`, a sum with the term c, which has the value of b
pub record KnownSum (b c : Float) (known r : Accumulator) : Type 0 where
  pub is_known : r ≡ known
  pub same_value : SameValue c b

-- the sum a with the term b: worked, or known
abbrev pub OneMore : Accumulator → Float → Float → Accumulator → Accumulator → Type 0
OneMore a b c known r = (r ≡ accumulate a b) ⊎ KnownSum b c known r

-- a guess at the total of a layer's own heat and the heat p, volume v × temp, of each of more + 1 layers
-- nothing rests on it: it is used where the total is the same
abbrev two_f : Float
two_f = dbl 0x4000_0000_0000_0000

abbrev eight_f : Float
eight_f = dbl 0x4020_0000_0000_0000

unfoldable pub guessed_total : ℕ → Float → Float → Float → Float → Option Float
guessed_total more v temp p own =
    cond (eqb more 0) (Some (p ⊕ own))
    (cond (eqb more 1) (Some (two_f ⊛ v ⊛ temp ⊕ own))
    (cond (eqb more 2) (Some (four_f ⊛ v ⊛ temp ⊕ (own ⊖ p)))
    (cond (eqb more 3) (Some (four_f ⊛ v ⊛ temp ⊕ own))
    (cond (eqb more 4) (Some (four_f ⊛ v ⊛ temp ⊕ (own ⊕ p)))
    (cond (eqb more 5) (Some (eight_f ⊛ v ⊛ temp ⊕ (own ⊖ two_f ⊛ v ⊛ temp)))
    (cond (eqb more 6) (Some (eight_f ⊛ v ⊛ temp ⊕ (own ⊖ p)))
    (cond (eqb more 7) (Some (eight_f ⊛ v ⊛ temp ⊕ own))
    (cond (eqb more 8) (Some (eight_f ⊛ v ⊛ temp ⊕ (own ⊕ p))) None))))))))
