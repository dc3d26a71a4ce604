-- Proves that a Sum2 of four and of five equal terms b, above zero, is known at once (01, Arithmetic underneath): four have the sum 4 b and lose nothing, and
-- five have the sum 5 b.
use mathlib.Core.Path.{◌≡◌, refl, sym, ap, ◌∙◌, subst}
use mathlib.Core.Bool.{true, false, not}
use Prim.Native.Nat.{ℕ, ◌+◌, ◌*◌, ◌<◌}
use native.Mathlib.Nat.{one-mul, zero-lt-suc}
use native.Mathlib.Omega.{arith}
use lib.Dec.{T}
use lib.Pow.{pow_pos}
use lib.Ieee.{Float, binary64, low, sub, neg, lt, le, fits, of_bits}
use lib.Ieee.Fits.{sub-fits, mul-fits, neg-fits}
use lib.Ieee.Exact.{HasValue}
use lib.Ieee.Positive.{positive, mul_at}
use lib.Ieee.Scale.{finite, round_val, round_under}
use Rattle.numeric.specs.Double.{◌⊕◌, ◌⊖◌, ◌⊛◌, zero_f, four_f, five_f}
use Rattle.numeric.specs.Iterate.{iterate}
use Rattle.numeric.specs.Sum2.{nothing_added, add_at}
use Rattle.numeric.specs.declared.sum2.Accumulator.{Accumulator}
use Rattle.numeric.proofs.Zeros.{is_minus_zero, add_not_minus}
use Rattle.shorter_sums.proofs.Sterbenz.{unit, top, rounds_to, total, twice_short, units_at}
use Rattle.numeric.proofs.Finite.{product_parts_finite}
use Rattle.shorter_sums.proofs.FastTwoSum.{above_zero, nothing_plus, positive_some, equals_one, equals_fast, fast}
use Rattle.shorter_sums.specs.Shorter.{Equals}
use Rattle.shorter_sums.proofs.Fourfold.{third, fourfold}
use Rattle.shorter_sums.proofs.FourTerms.{near, under_top, less_finite, four_state}

-- ---- 4 b and 5 b, in units
times_four : (b : Float) (n : ℕ) → T (positive b) → HasValue b false n (unit binary64) → four_f ⊛ b ≡ near false (n + n + (n + n))
unfolding of_bits
times_four b n B v =
    let e : 4 * n ≡ n + n + (n + n) = omega arith in
    mul_at binary64 four_f b 4 1 n (unit binary64) tt B (zero-lt-suc 0) (pow_pos (low binary64)) (refl, refl) v ∙ rw (one-mul (unit binary64), e) refl

times_five : (b : Float) (n : ℕ) → T (positive b) → HasValue b false n (unit binary64) → five_f ⊛ b ≡ near false (n + n + (n + n) + n)
unfolding of_bits
times_five b n B v =
    let e : 5 * n ≡ n + n + (n + n) + n = omega arith in
    mul_at binary64 five_f b 5 1 n (unit binary64) tt B (zero-lt-suc 0) (pow_pos (low binary64)) (refl, refl) v ∙ rw (one-mul (unit binary64), e) refl

half_under : (n t : ℕ) → n + n + (n + n) < t → n + n < t
half_under n t h = omega arith

module _ (b : Float) (fb : T (fits binary64 b)) where
  -- the state after four terms
  four_known : lt zero_f b ≡ true → T (finite (four_f ⊛ b)) → fast (fast (fast (record { s = b; c = zero_f }) b) b) b ≡ record { s = four_f ⊛ b; c = zero_f }
  four_known h f =
      let B = above_zero b h (product_parts_finite four_f b f).1 in
      let w = units_at binary64 b B fb in
      let n = w.0 in
      let is = times_four b n B w.2.value in
      let four-finite = subst (λ (z : Float). T (finite z)) is f in
      let t = under_top (n + n + (n + n)) four-finite in
      let two : HasValue (b ⊕ b) false (n + n) (unit binary64) = rw (total binary64 b b n n w.2.value w.2.value) (rounds_to binary64 (n + n) (twice_short binary64 n w.2.short) (half_under n (top binary64) t)) in
      let three-is : b ⊕ b ⊕ b ≡ near false (n + n + n) = total binary64 (b ⊕ b) b (n + n) n two w.2.value in
      let three_finite = less_finite (n + n + n) (n + n + (n + n)) (omega arith) four-finite in
      let three : HasValue (b ⊕ b ⊕ b) false (third n) (unit binary64) = rw three-is (round_val binary64 (n + n + n) (unit binary64) (round_under binary64 (n + n + n) (unit binary64) three_finite)) in
      let four_is : b ⊕ b ⊕ b ⊕ b ≡ near false (n + n + (n + n)) = total binary64 (b ⊕ b ⊕ b) b (third n) n three w.2.value ∙ fourfold n w.2.short w.1 t in
      let same : b ⊕ b ⊕ b ⊕ b ≡ four_f ⊛ b = four_is ∙ sym is in
      four_state b n w.1 w.2 B fb four_is (rw same f) ∙ ap (λ (x : Float). record { s = x; c = zero_f }) same

  pub four_equals : Equals b 4 (record { s = four_f ⊛ b; c = zero_f })
  four_equals = (
    mul-fits binary64 four_f b,
    λ h f.
        let known = four_known h f in
        let one = equals_one b fb in
        let four = equals_fast b 3 (fast (fast (record { s = b; c = zero_f }) b) b) fb (equals_fast b 2 (fast (record { s = b; c = zero_f }) b) fb (equals_fast b 1 (record { s = b; c = zero_f }) fb one)) in
        subst (λ (a : Accumulator). T (le b a.s) × ((i : ℕ) → a ≡ iterate (add_at (λ (j : ℕ). b)) 4 i nothing_added)) known (four.1 h (rw (ap (λ (a : Accumulator). a.s) known) f)),
  )

  -- and after five
  five_known : lt zero_f b ≡ true → T (finite (five_f ⊛ b)) → T (finite (four_f ⊛ b)) × (fast (record { s = four_f ⊛ b; c = zero_f }) b ≡ record { s = five_f ⊛ b; c = b ⊖ (five_f ⊛ b ⊖ four_f ⊛ b) })
  five_known h f =
      let B = above_zero b h (product_parts_finite five_f b f).1 in
      let w = units_at binary64 b B fb in
      let n = w.0 in
      let is = times_five b n B w.2.value in
      let four_is = times_four b n B w.2.value in
      let four-finite : T (finite (four_f ⊛ b)) = rw four_is (less_finite (n + n + (n + n)) (n + n + (n + n) + n) (omega arith) (subst (λ (z : Float). T (finite z)) is f)) in
      let short = twice_short binary64 (n + n) (twice_short binary64 n w.2.short) in
      let v : HasValue (four_f ⊛ b) false (n + n + (n + n)) (unit binary64) = rw four_is (rounds_to binary64 (n + n + (n + n)) short (under_top (n + n + (n + n)) (subst (λ (z : Float). T (finite z)) four_is four-finite))) in
      let same : four_f ⊛ b ⊕ b ≡ five_f ⊛ b = total binary64 (four_f ⊛ b) b (n + n + (n + n)) n v w.2.value ∙ sym is in
      let y = b ⊖ (five_f ⊛ b ⊖ four_f ⊛ b) in
      let some : T (not (is_minus_zero y)) = unfold sub in add_not_minus binary64 b (neg (five_f ⊛ b ⊖ four_f ⊛ b)) fb (neg-fits binary64 (five_f ⊛ b ⊖ four_f ⊛ b) (sub-fits binary64 (five_f ⊛ b) (four_f ⊛ b))) (positive_some b B) in
      (four-finite, rw (same, nothing_plus y (sub-fits binary64 b (five_f ⊛ b ⊖ four_f ⊛ b)) some) refl)

  pub five_equals : Equals b 5 (record { s = five_f ⊛ b; c = b ⊖ (five_f ⊛ b ⊖ four_f ⊛ b) })
  five_equals = (
    mul-fits binary64 five_f b,
    λ h f.
        let known = (five_known h f).1 in
        let five = equals_fast b 4 (record { s = four_f ⊛ b; c = zero_f }) fb four_equals in
        subst (λ (a : Accumulator). T (le b a.s) × ((i : ℕ) → a ≡ iterate (add_at (λ (j : ℕ). b)) 5 i nothing_added)) known (five.1 h (rw (ap (λ (a : Accumulator). a.s) known) f)),
  )
