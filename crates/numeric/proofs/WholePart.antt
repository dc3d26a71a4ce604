-- Proves that the cut by comparison is the whole part (01, Tank; Forms Rattle lacks): of a finite number that is not negative, `whole_below n` is
-- its whole part wherever that is below n, and so what a cast to an unsigned integer gives; of n itself it is n - 1. And what a search for it from the lowest
-- up cites.
use mathlib.Core.Bool.{Bool, true, false, cond, ◌&&◌, ◌||◌, true≢false}
use mathlib.Core.Logic.{◌⊎◌, inl, inr}
use mathlib.Core.Path.{◌≡◌, refl, sym, ◌∙◌, subst}
use Prim.Native.Nat.{ℕ, zero, suc, ◌+◌, ◌-◌, ◌*◌, ◌/◌, ◌^◌, ◌≤◌, ◌<◌}
use native.Mathlib.Nat.{add-zero, mul-one, mul-pos, le-div_iff_mul-le, le_of_lt, le_of_eq, le_of_suc-le-suc, eq-or-lt_of_le, min-eq_left}
use native.Mathlib.Omega.{arith}
use borrow.Author.Tests.{ne_eqb}
use lib.Dec.{T, ltb, eqb, eqb→eq, ltb→lt}
use lib.IntN.{ℤ}
use lib.Pow.{pow_pos}
use lib.Ieee.{Float, nan, inf, fin, binary64, up, down, round, sum, add, mul, of_int, of_bits, le, to_unsigned}
use lib.Ieee.Bits.{is_true}
use lib.Ieee.Fits.{down_pos}
use lib.Ieee.Scale.{round_same}
use lib.Ieee.Exact.{HasValue}
use lib.Ieee.Order.{transfer, le_of_values}
use lib.Ieee.Back.{round_whole}
use Rattle.numeric.specs.Double.{whole, ◌⊕◌, ◌⊛◌, one_f}
use Rattle.numeric.specs.Whole.{whole_below}
use Rattle.numeric.proofs.NotANumber.{not_at_nan}

whole_value : (k : ℕ) → k ≤ 2 ^ 53 → HasValue (whole k) false k 1
unfolding of_int
whole_value k h = round_whole binary64 false k h

-- what a comparison of two numbers that are not negative says of their numerators over one denominator
pub at_most : (a b : ℕ) (s t : Bool) → ltb a b ≡ s → eqb a b ≡ t → T (s || (t && true)) → a ≤ b
at_most a b true t p q h = le_of_lt (ltb→lt a b (subst T (sym p) tt))
at_most a b false true p q h = le_of_eq (eqb→eq a b (subst T (sym q) tt))
at_most a b false false p q h = absurd h

cross : (y : Float) (k m : ℕ) (e : ℤ) → HasValue y false k 1 → T (le y (fin false m e)) → k * down e ≤ m * up e * 1
unfolding le
cross nan k m e v h = absurd v
cross (inf s) k m e v h = absurd v
cross (fin true n d) k m e v h = let z : true ≡ false = v.0 in absurd (subst T z tt)
cross (fin false n d) k m e v h =
    transfer k (m * up e) 1 (down e) (n * up d) (m * up e) (down d) (down e) (down_pos d) (down_pos e) (sym v.1) refl
    (at_most (n * up d * down e) (m * up e * down d) (ltb (n * up d * down e) (m * up e * down d)) (eqb (n * up d * down e) (m * up e * down d)) refl refl h)

-- any cut is below its bound
pub whole_below_bound : (n : ℕ) (x : Float) → 0 < n → whole_below n x < n
unfolding whole_below
whole_below_bound zero x h = absurd (omega arith)
whole_below_bound (suc zero) x h = one (le (whole 0) x)
  where
    one : (b : Bool) → cond b 0 0 < 1
    one true = omega arith
    one false = omega arith
whole_below_bound (suc (suc k)) x h = either (le (whole (suc k)) x) (whole_below (suc k) x) (whole_below_bound (suc k) x (omega arith))
  where
    either : (b : Bool) (w : ℕ) → w < suc k → cond b (suc k) w < suc (suc k)
    either true w l = omega arith
    either false w l = omega arith

module _ (m : ℕ) (e : ℤ) where
  reached : (k : ℕ) → k ≤ 2 ^ 53 → k ≤ m * up e / down e → le (whole k) (fin false m e) ≡ true
  reached k b h =
      is_true _
      (le_of_values (whole k) (fin false m e) k 1 (m * up e) (down e) (pow_pos 0) (down_pos e) (whole_value k b) (refl, refl)
      (rw mul-one ((le-div_iff_mul-le (down_pos e)).0 h)))

  short : (k : ℕ) → k ≤ 2 ^ 53 → T (le (whole k) (fin false m e)) → k ≤ m * up e / down e
  short k b t = (le-div_iff_mul-le (down_pos e)).1 (rw mul-one at (cross (whole k) k m e (whole_value k b) t))

  pub whole_part : (n : ℕ) → n ≤ 2 ^ 53 → m * up e / down e < n → whole_below n (fin false m e) ≡ m * up e / down e
  unfolding whole_below
  whole_part zero b h = absurd (omega arith)
  whole_part (suc k) b h = go (λ l. whole_part k (omega arith) l) (eq-or-lt_of_le (le_of_suc-le-suc h))
    where
      other : m * up e / down e < k → (t : Bool) → le (whole k) (fin false m e) ≡ t → t ≡ false
      other l false p = refl
      other l true p = let s = short k (omega arith) (subst T (sym p) tt) in absurd (omega arith)

      go : (m * up e / down e < k → whole_below k (fin false m e) ≡ m * up e / down e) → (m * up e / down e ≡ k) ⊎ (m * up e / down e < k) → cond (le (whole k) (fin false m e)) k (whole_below k (fin false m e)) ≡ m * up e / down e
      go f (inl z) = rw (reached k (omega arith) (omega arith)) (sym z)
      go f (inr l) = rw (other l _ refl) (f l)

  -- the law
  pub whole_cast : (n : ℕ) → n ≤ 2 ^ 53 → m * up e / down e < n → whole_below n (fin false m e) ≡ to_unsigned 64 (fin false m e)
  unfolding to_unsigned
  whole_cast n b h = whole_part n b h ∙ sym (min-eq_left (omega arith))

-- ---- what is not above zero reaches no whole number but 0
and_false : (a : Bool) → (a && false) ≡ false
and_false true = refl
and_false false = refl

above_minus_infinity : (y : Float) (k : ℕ) → HasValue y false k 1 → le y (inf true) ≡ false
unfolding le
above_minus_infinity nan k v = absurd v
above_minus_infinity (inf s) k v = absurd v
above_minus_infinity (fin s m e) k v = refl

above_minus : (y : Float) (k m : ℕ) (e : ℤ) → 0 < k → HasValue y false k 1 → le y (fin true m e) ≡ false
unfolding le
above_minus nan k m e h v = absurd v
above_minus (inf s) k m e h v = absurd v
above_minus (fin true n d) k m e h v = let z : true ≡ false = v.0 in absurd (subst T z tt)
above_minus (fin false n d) k m e h v =
    let p : 0 < k * down d = mul-pos h (down_pos d) in
    let q : n * up d * 1 ≡ k * down d = v.1 in
    let a : 0 < n * up d * down e = mul-pos (omega arith) (down_pos e) in
    rw (ne_eqb (n * up d * down e) 0 (λ z. omega arith)) (and_false (eqb (n * up d * down e) (m * up e * down d)))

below_infinity : (y : Float) (k : ℕ) → HasValue y false k 1 → le y (inf false) ≡ true
unfolding le
below_infinity nan k v = absurd v
below_infinity (inf s) k v = absurd v
below_infinity (fin s m e) k v = refl

-- ---- a number that reaches a whole number reaches those below it
reached_lower : (x : Float) (j k : ℕ) → j ≤ 2 ^ 53 → k ≤ j → le (whole j) x ≡ true → le (whole k) x ≡ true
reached_lower nan j k b l h = absurd (true≢false (sym h ∙ not_at_nan (whole j)))
reached_lower (inf true) j k b l h = absurd (true≢false (sym h ∙ above_minus_infinity (whole j) j (whole_value j b)))
reached_lower (inf false) j k b l h = below_infinity (whole k) k (whole_value k (omega arith))
reached_lower (fin true m e) zero k b l h = let z : k ≡ 0 = omega arith in rw z h
reached_lower (fin true m e) (suc j) k b l h = absurd (true≢false (sym h ∙ above_minus (whole (suc j)) (suc j) m e (omega arith) (whole_value (suc j) b)))
reached_lower (fin false m e) j k b l h =
    let q = short m e j b (subst T (sym h) tt) in
    reached m e k (omega arith) (omega arith)

not_reached_upper : (x : Float) (j k : ℕ) → j ≤ 2 ^ 53 → k ≤ j → le (whole k) x ≡ false → le (whole j) x ≡ false
not_reached_upper x j k b l h = go (le (whole j) x) refl
  where
    go : (t : Bool) → le (whole j) x ≡ t → t ≡ false
    go false p = refl
    go true p = absurd (true≢false (sym (reached_lower x j k b l p) ∙ h))

-- so the cut below n is the cut below any number that is not reached
cut_lower : (x : Float) (i d : ℕ) → i + d ≤ 2 ^ 53 → le (whole i) x ≡ false → whole_below (i + d) x ≡ whole_below i x
unfolding whole_below
cut_lower x i zero b h = rw add-zero
cut_lower x i (suc d) b h =
    let e : i + suc d ≡ suc (i + d) = omega arith in
    rw (e, not_reached_upper x (i + d) i (omega arith) (omega arith) h) (cut_lower x i d (omega arith) h)

-- ---- the search from the lowest up: k is 0, or below n and reached
abbrev pub Found : ℕ → Float → ℕ → Type 0
Found n x k = (k ≡ 0) ⊎ ((k < n) × (le (whole k) x ≡ true))

cut_found : (n k : ℕ) (x : Float) → Found n x k → whole_below (suc k) x ≡ k
unfolding whole_below
cut_found n k x (inl z) = rw z (either (le (whole 0) x))
  where
    either : (b : Bool) → ◌≡◌ {A = ℕ} (cond b 0 0) 0
    either true = refl
    either false = refl
cut_found n k x (inr h) = rw h.1

pub found_stop : (n k : ℕ) (x : Float) → n ≤ 2 ^ 53 → k + 1 < n → le (whole (k + 1)) x ≡ false → Found n x k → k ≡ whole_below n x
found_stop n k x b l h f =
    let e : n ≡ k + 1 + (n - (k + 1)) = omega arith in
    let s : k + 1 ≡ suc k = omega arith in
    sym (rw e (cut_lower x (k + 1) (n - (k + 1)) (omega arith) h ∙ rw s (cut_found n k x f)))

pub found_end : (n k : ℕ) (x : Float) → n ≤ k + 1 → Found n x k → k ≡ whole_below n x
unfolding whole_below
found_end zero k x l (inl z) = z
found_end zero k x l (inr h) = absurd (omega arith)
found_end (suc n) k x l (inl z) = let e : n ≡ 0 = omega arith in rw (e, z) (sym (rw z at (cut_found (suc n) k x (inl z))))
found_end (suc n) k x l (inr h) = let e : n ≡ k = omega arith in rw e (sym (cut_found (suc n) k x (inr h)))

-- the double of the next whole number is one more
plus_one : (y : Float) (k : ℕ) → HasValue y false k 1 → y ⊕ one_f ≡ whole (k + 1)
unfolding add sum of_bits of_int
plus_one nan k v = absurd v
plus_one (inf s) k v = absurd v
plus_one (fin true m e) k v = let z : true ≡ false = v.0 in absurd (subst T z tt)
plus_one (fin false m e) k v =
    let q : m * up e * 1 ≡ k * down e = v.1 in
    round_same binary64 false (m * up e * 1 + 1 * 1 * down e) (down e * 1) (k + 1) 1 (mul-pos (down_pos e) (pow_pos 0)) (pow_pos 0) (omega arith)

pub whole_next : (k : ℕ) → k ≤ 2 ^ 53 → whole k ⊕ one_f ≡ whole (k + 1)
whole_next k b = plus_one (whole k) k (whole_value k b)

pub whole_one : one_f ≡ whole (0 + 1)
unfolding of_bits of_int round
whole_one = refl

-- ---- the cut of a whole number by itself

-- 1 × a whole number is that number
times_one : (y : Float) (k : ℕ) → HasValue y false k 1 → one_f ⊛ y ≡ whole k
unfolding mul of_bits of_int
times_one nan k v = absurd v
times_one (inf s) k v = absurd v
times_one (fin true m e) k v = let z : true ≡ false = v.0 in absurd (subst T z tt)
times_one (fin false m e) k v =
    let q : m * up e * 1 ≡ k * down e = v.1 in
    round_same binary64 false (1 * 1 * (m * up e)) (1 * down e) k 1 (mul-pos (pow_pos 0) (down_pos e)) (pow_pos 0) (omega arith)

whole_rises : (k : ℕ) → suc k ≤ 2 ^ 53 → le (whole k) (whole (suc k)) ≡ true
whole_rises k b =
    is_true _
    (le_of_values (whole k) (whole (suc k)) k 1 (suc k) 1 (pow_pos 0) (pow_pos 0) (whole_value k (omega arith)) (whole_value (suc k) b) (omega arith))

-- below n the largest whole number that is at most n is the one before it
pub whole_of_one : (k : ℕ) → suc k ≤ 2 ^ 53 → whole_below (suc k) (one_f ⊛ whole (suc k)) ≡ k
unfolding whole_below
whole_of_one k b = rw (times_one (whole (suc k)) (suc k) (whole_value (suc k) b), whole_rises k b)
