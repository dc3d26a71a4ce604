-- Proves that a term above zero and at most s may be added to a Sum2 by FastTwoSum (01, Arithmetic underneath): what the sum x loses is b - (x - s), since
-- x - (x - s) is s by Sterbenz's lemma.
use mathlib.Core.Path.{◌≡◌, refl, sym, ◌∙◌}
use mathlib.Core.Bool.{true, false, not, true≢false}
use Prim.Native.Nat.{ℕ, zero, suc, ◌+◌, ◌*◌}
use native.Mathlib.Nat.{zero-lt-suc, le_refl}
use native.Mathlib.Omega.{arith}
use borrow.Author.Tests.{ltb-true}
use lib.Dec.{T, lt→ltb}
use lib.Ieee.{Float, nan, inf, fin, binary64, up, down, add, sub, neg, lt, le, fits, of_bits}
use lib.Ieee.Fits.{add-fits, sub-fits, neg-fits}
use lib.Ieee.Positive.{num, den, positive, cross→le}
use lib.Ieee.Scale.{finite}
use denote.Floats.{passes, is_true}
use Rattle.numeric.specs.Double.{◌⊕◌, ◌⊖◌, zero_f}
use Rattle.numeric.specs.Iterate.{iterate, iterate_more}
use Rattle.numeric.specs.Sum2.{nothing_added, accumulate, add_at}
use Rattle.numeric.specs.declared.sum2.Accumulator.{Accumulator}
use Rattle.numeric.proofs.Difference.{minus_self}
use Rattle.numeric.proofs.Zeros.{is_minus_zero, zero_plus, add_not_minus}
use Rattle.numeric.proofs.Finite.{sum_parts_finite}
use Rattle.shorter_sums.specs.Shorter.{SmallerAdded, Equals}
use Rattle.shorter_sums.proofs.Sterbenz.{sum_back, sum_above}
use Rattle.numeric.proofs.Members.{one_term}

pub above_zero : (b : Float) → lt zero_f b ≡ true → T (finite b) → T (positive b)
unfolding lt of_bits
above_zero nan h g = absurd g
above_zero (inf s) h g = absurd g
above_zero (fin true m e) h g = absurd (true≢false (sym h))
above_zero (fin false zero e) h g = let l = ltb-true (0 * 1 * down e) (0 * up e * 1) h in absurd (omega arith)
above_zero (fin false (suc m) e) h g = lt→ltb 0 (suc m) (zero-lt-suc m)

pub positive_some : (b : Float) → T (positive b) → T (not (is_minus_zero b))
positive_some nan p = tt
positive_some (inf s) p = tt
positive_some (fin true m e) p = absurd p
positive_some (fin false zero e) p = tt
positive_some (fin false (suc m) e) p = tt

-- 0 + x is x, unless that is -0
pub nothing_plus : (x : Float) → T (fits binary64 x) → T (not (is_minus_zero x)) → zero_f ⊕ x ≡ x
unfolding add of_bits
nothing_plus nan p h = refl
nothing_plus (inf s) p h = refl
nothing_plus (fin s m e) p h = zero_plus binary64 s m e p h

pub fast_two_sum : (a : Accumulator) (b : Float) → T (fits binary64 a.s) → T (fits binary64 b) → lt zero_f b ≡ true → le b a.s ≡ true → T (finite (a.s ⊕ b)) → record { s = a.s ⊕ b; c = a.c ⊕ (b ⊖ (a.s ⊕ b ⊖ a.s)) } ≡ accumulate a b
unfolding accumulate
fast_two_sum a b p q h l g =
    let parts = sum_parts_finite a.s b g in
    let B = above_zero b h parts.1 in
    let y = b ⊖ (a.s ⊕ b ⊖ a.s) in
    let some : T (not (is_minus_zero y)) = unfold sub in add_not_minus binary64 b (neg (a.s ⊕ b ⊖ a.s)) q (neg-fits binary64 (a.s ⊕ b ⊖ a.s) (sub-fits binary64 (a.s ⊕ b) a.s)) (positive_some b B) in
    rw (sum_back binary64 a.s b B p q (passes _ l) parts.0 g, minus_self a.s (is_true (finite a.s) parts.0), nothing_plus y (sub-fits binary64 b (a.s ⊕ b ⊖ a.s)) some) refl

-- ---- a Sum2 of equal terms above zero
pub equals_one : (b : Float) → T (fits binary64 b) → Equals b 1 (record { s = b; c = zero_f })
unfolding iterate
equals_one b p = (
  p,
  λ h f.
      let B = above_zero b h f in
      (cross→le b b B B (le_refl (num b * den b)), λ i. rw (one_term b p f, nothing_plus b p (positive_some b B)) refl),
)

pub equals_more : (b : Float) (k : ℕ) (a q : Accumulator) → T (fits binary64 b) → Equals b k a → SmallerAdded a b q → Equals b (k + 1) q
equals_more b k a q r e m = (
  rw m.s_is (add-fits binary64 a.s b),
  λ h f.
      let parts = sum_parts_finite a.s b (rw (← m.s_is) f) in
      let old = e.1 h parts.0 in (
        rw m.s_is (sum_above binary64 a.s b (above_zero b h parts.1) e.0 r old.0 parts.0),
        λ i. m.accumulates h (is_true (le b a.s) old.0) (is_true (finite q.s) f) ∙ rw (iterate_more (add_at (λ (j : ℕ). b)) k i nothing_added, ← old.1 i) refl,
      ),
)

-- a term by FastTwoSum
abbrev pub fast : Accumulator → Float → Accumulator
fast a b = record { s = a.s ⊕ b; c = a.c ⊕ (b ⊖ (a.s ⊕ b ⊖ a.s)) }

pub equals_fast : (b : Float) (k : ℕ) (a : Accumulator) → T (fits binary64 b) → Equals b k a → Equals b (k + 1) (fast a b)
equals_fast b k a r e = equals_more b k a (fast a b) r e (record { s_is = refl; accumulates = λ h l f. fast_two_sum a b e.0 r h l (passes _ f) })
