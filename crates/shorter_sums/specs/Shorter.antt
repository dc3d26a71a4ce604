-- States what the shorter ways to Sum2 give (01, Arithmetic underneath): the sum by its definition, where terms are above zero and what comes out is finite.
use Rattle.std.specs.Prelude.{ℕ, true, ◌≡◌, T, Float}
use Rattle.std.specs.Float.{binary64}
use Rattle.std.specs.Float.Ieee.{lt, le, fits}
use Rattle.std.specs.Float.Ieee.Scale.{finite}
use Rattle.numeric.specs.Double.{◌⊕◌, zero_f}
use Rattle.numeric.specs.Iterate.{iterate}
use Rattle.numeric.specs.Sum2.{nothing_added, accumulate, add_at}
use Rattle.numeric.specs.declared.sum2.Accumulator.{Accumulator}

-- the term b was added to the sum a: r is the sum with it, where b is above zero and at most a's s, and r's s is finite
pub record SmallerAdded (a : Accumulator) (b : Float) (r : Accumulator) : Type 0 where
  pub s_is : r.s ≡ a.s ⊕ b
  pub accumulates : lt zero_f b ≡ true → le b a.s ≡ true → finite r.s ≡ true → r ≡ accumulate a b

-- r is the sum of the one term b
abbrev pub OneAdded : Float → Accumulator → Type 0
OneAdded b r = (finite b ≡ true → r ≡ accumulate nothing_added b)

-- r is the sum of m terms b, where b is above zero
abbrev pub EqualAdded : Float → ℕ → Accumulator → Type 0
EqualAdded b m r =
    (lt zero_f b ≡ true → finite r.s ≡ true → (i : ℕ) → r ≡ iterate (add_at (λ (k : ℕ). b)) m i nothing_added)

-- ---- a Sum2 of equal terms above zero, where it is finite: k of them, from any index on, and it is at least one of them
abbrev pub Equals : Float → ℕ → Accumulator → Type 0
Equals b k a =
    T (fits binary64 a.s)
    × (lt zero_f b ≡ true → T (finite a.s) → T (le b a.s) × ((i : ℕ) → a ≡ iterate (add_at (λ (j : ℕ). b)) k i nothing_added))

-- where a is the sum of k terms b, r is that of m of them
abbrev pub MoreAdded : Accumulator → Float → ℕ → ℕ → Accumulator → Type 0
MoreAdded a b k m r = Equals b k a → Equals b m r
