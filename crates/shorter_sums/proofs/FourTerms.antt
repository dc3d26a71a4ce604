-- Proves what a Sum2 of four equal terms p loses where p + p + p + p, rounded at each sum, is 4 p (01, Arithmetic underneath): nothing. What the third sum
-- loses, the fourth gives back: the two errors are opposite.
use mathlib.Core.Path.{◌≡◌, refl, sym, ap, ◌∙◌, subst}
use mathlib.Core.Logic.{⊎_elim}
use mathlib.Core.Bool.{Bool, true, false, not}
use Prim.Native.Nat.{ℕ, ◌+◌, ◌-◌, ◌≤◌, ◌<◌, zero-le}
use native.Mathlib.Nat.{mul-le-mul_right, eq-or-lt_of_le}
use native.Mathlib.Omega.{arith}
use lib.Dec.{T, ltb, ltb→lt, nltb→le}
use lib.Pow.{pow_pos}
use lib.Ieee.{Float, nan, inf, fin, binary64, low, round, add, sub, neg, le, fits, of_bits}
use lib.Ieee.Fits.{add-fits, sub-fits, neg-fits}
use lib.Ieee.Exact.{HasValue}
use lib.Ieee.Order.{round_mono}
use lib.Ieee.Positive.{positive, positive_of_value}
use lib.Ieee.Scale.{finite}
use denote.Floats.{is_true}
use Rattle.numeric.specs.Double.{◌⊕◌, ◌⊖◌, zero_f}
use Rattle.numeric.proofs.Difference.{round_none, minus_self}
use Rattle.numeric.proofs.Within.{minus_round}
use Rattle.numeric.proofs.Zeros.{is_minus_zero, add_not_minus, in_order}
use Rattle.shorter_sums.proofs.Sterbenz.{unit, top, Units, rounds_to, difference, below_difference, exact_gap, total, twice_short, sum_units}
use Rattle.shorter_sums.proofs.FastTwoSum.{nothing_plus, positive_some, fast}
use Rattle.numeric.proofs.Finite.{sum_parts_finite}

abbrev u : ℕ
u = unit binary64

-- the double nearest to n units, with the sign s
abbrev pub near : Bool → ℕ → Float
near s n = round binary64 s n u

-- ---- a finite one has fewer units than overflow
over : near false (top binary64) ≡ inf false
unfolding round
over = refl

no_infinity : (x : Float) → T (le (inf false) x) → T (finite x) → ⊥
unfolding le
no_infinity nan h g = h
no_infinity (inf s) h g = g
no_infinity (fin s m e) h g = h

pub under_top : (n : ℕ) → T (finite (near false n)) → n < top binary64
under_top n h = go (ltb n (top binary64)) (ltb→lt n (top binary64)) (nltb→le n (top binary64))
  where
    go : (b : Bool) → (T b → n < top binary64) → (T (not b) → top binary64 ≤ n) → n < top binary64
    go true l g = l tt
    go false l g =
        let m : T (le (near false (top binary64)) (near false n)) = round_mono binary64 (top binary64) u n u (pow_pos (low binary64)) (pow_pos (low binary64)) (mul-le-mul_right u (g tt)) in
        absurd (no_infinity (near false n) (rw (← over) m) h)

-- and one of no more units than a finite one is finite
between_finite : (x y : Float) → T (le zero_f x) → T (le x y) → T (finite y) → T (finite x)
unfolding le of_bits
between_finite nan y l h g = absurd l
between_finite (inf true) y l h g = absurd l
between_finite (inf false) y l h g = absurd (no_infinity y h g)
between_finite (fin s m e) y l h g = tt

pub less_finite : (d n : ℕ) → d ≤ n → T (finite (near false n)) → T (finite (near false d))
less_finite d n h g =
    let P = pow_pos (low binary64) in
    let low_end : T (le (near false 0) (near false d)) = round_mono binary64 0 u d u P P (mul-le-mul_right u (zero-le {n = d})) in
    between_finite (near false d) (near false n) (rw (← round_none u P) low_end) (round_mono binary64 d u n u P P (mul-le-mul_right u h)) g

-- ---- opposites
neg_finite : (x : Float) → T (finite (neg x)) → T (finite x)
unfolding neg
neg_finite nan h = h
neg_finite (inf s) h = h
neg_finite (fin s m e) h = tt

neg_neg : (x : Float) → neg (neg x) ≡ x
unfolding neg
neg_neg nan = refl
neg_neg (inf true) = refl
neg_neg (inf false) = refl
neg_neg (fin true m e) = refl
neg_neg (fin false m e) = refl

opposite : (x : Float) → T (finite x) → x ⊕ neg x ≡ zero_f
unfolding sub
opposite x h = minus_self x (is_true (finite x) h)

down_up : (d : ℕ) → T (finite (near false d)) → near true d ⊕ near false d ≡ zero_f
down_up d h =
    let e = (minus_round binary64 d u).1 in
    rw (← e) (opposite (near true d) (neg_finite (near true d) (rw e h)))

pub near_below : (d : ℕ) → near true d ≡ neg (near false d)
near_below d = sym (neg_neg (near true d)) ∙ ap neg (minus_round binary64 d u).1

up_down : (d : ℕ) → T (finite (near false d)) → near false d ⊕ near true d ≡ zero_f
up_down d h = rw (near_below d) (opposite (near false d) h)

-- p - y and p - z, where y and z are as far from p, one below it and one above
module _ (p y z : Float) (n k l : ℕ) (v : HasValue p false n u) (w : HasValue y false k u) (x : HasValue z false l u) (g : T (finite (near false n))) (e : k + l ≡ n + n) where
  equal_halves : k ≡ n → (p ⊖ y) ⊕ (p ⊖ z) ≡ zero_f
  unfolding add of_bits
  equal_halves h =
      let nk : n - k ≡ 0 = omega arith in
      let nl : n - l ≡ 0 = omega arith in
      let a : p ⊖ y ≡ zero_f = difference binary64 p y n k v w (omega arith) ∙ rw nk (round_none u (pow_pos (low binary64))) in
      let b : p ⊖ z ≡ zero_f = difference binary64 p z n l v x (omega arith) ∙ rw nl (round_none u (pow_pos (low binary64))) in
      rw (a, b) refl

  first_less : k < n → (p ⊖ y) ⊕ (p ⊖ z) ≡ zero_f
  first_less h =
      let a : p ⊖ y ≡ near false (n - k) = difference binary64 p y n k v w (omega arith) in
      let b : p ⊖ z ≡ near true (n - k) = below_difference binary64 p z n l v x (omega arith) ∙ ap (near true) (omega arith) in
      rw (a, b) (up_down (n - k) (less_finite (n - k) n (omega arith) g))

  second_less : n < k → (p ⊖ y) ⊕ (p ⊖ z) ≡ zero_f
  second_less h =
      let a : p ⊖ y ≡ near true (n - l) = below_difference binary64 p y n k v w (omega arith) ∙ ap (near true) (omega arith) in
      let b : p ⊖ z ≡ near false (n - l) = difference binary64 p z n l v x (omega arith) in
      rw (a, b) (down_up (n - l) (less_finite (n - l) n (omega arith) g))

  pub errors_cancel : (p ⊖ y) ⊕ (p ⊖ z) ≡ zero_f
  errors_cancel =
      ⊎_elim (λ h. ⊎_elim equal_halves first_less (eq-or-lt_of_le h)) (λ h. ⊎_elim (λ q. equal_halves (sym q)) second_less (eq-or-lt_of_le h)) (in_order k n)

-- ---- four terms, each n units
value_finite : (x : Float) (s : Bool) (a c : ℕ) → HasValue x s a c → T (finite x)
value_finite nan s a c h = absurd h
value_finite (inf t) s a c h = absurd h
value_finite (fin t m e) s a c h = tt

units_twice : (x : Float) (n : ℕ) → Units binary64 x n → (y : Float) → y ≡ near false (n + n) → T (finite y) → Units binary64 y (n + n)
units_twice x n p y e h =
    let t = under_top (n + n) (subst (λ (z : Float). T (finite z)) e h) in
    record { value = rw e (rounds_to binary64 (n + n) (twice_short binary64 n p.short) t); short = twice_short binary64 n p.short; under = t }

module _ (p : Float) (n : ℕ) (N : 0 < n) (P : Units binary64 p n) (B : T (positive p)) (fp : T (fits binary64 p)) (E : p ⊕ p ⊕ p ⊕ p ≡ near false (n + n + (n + n))) (F : T (finite (p ⊕ p ⊕ p ⊕ p))) where
  three_finite : T (finite (p ⊕ p ⊕ p))
  three_finite = (sum_parts_finite (p ⊕ p ⊕ p) p F).0

  two_finite : T (finite (p ⊕ p))
  two_finite = (sum_parts_finite (p ⊕ p) p three_finite).0

  two_units : Units binary64 (p ⊕ p) (n + n)
  two_units = units_twice p n P (p ⊕ p) (total binary64 p p n n P.value P.value) two_finite

  four_units : Units binary64 (p ⊕ p ⊕ p ⊕ p) (n + n + (n + n))
  four_units = units_twice (p ⊕ p) (n + n) two_units (p ⊕ p ⊕ p ⊕ p) E F

  -- the second sum loses nothing
  second : p ⊖ (p ⊕ p ⊖ p) ≡ zero_f
  second =
      let z = exact_gap binary64 (p ⊕ p) p (n + n) n two_units P (omega arith) (omega arith) in
      let none : n - (n + n - n) ≡ 0 = omega arith in
      difference binary64 p (p ⊕ p ⊖ p) n (n + n - n) P.value z (omega arith) ∙ rw none (round_none u (pow_pos (low binary64)))

  -- what the third loses, the fourth gives back
  third : (p ⊖ (p ⊕ p ⊕ p ⊖ (p ⊕ p))) ⊕ (p ⊖ (p ⊕ p ⊕ p ⊕ p ⊖ (p ⊕ p ⊕ p))) ≡ zero_f
  third =
      let s = sum_units binary64 (p ⊕ p) p (n + n) n two_units (omega arith) P (positive_of_value (p ⊕ p) (n + n) u two_units.value (omega arith)) (add-fits binary64 p p) (omega arith) three_finite in
      let m = s.0 in
      let l = s.1.least in
      let k = s.1.most in
      errors_cancel p (p ⊕ p ⊕ p ⊖ (p ⊕ p)) (p ⊕ p ⊕ p ⊕ p ⊖ (p ⊕ p ⊕ p)) n (m - (n + n)) (n + n + (n + n) - m) P.value
      (exact_gap binary64 (p ⊕ p ⊕ p) (p ⊕ p) m (n + n) s.1.units two_units l k)
      (exact_gap binary64 (p ⊕ p ⊕ p ⊕ p) (p ⊕ p ⊕ p) (n + n + (n + n)) m four_units s.1.units k (omega arith))
      (value_finite (near false n) false n u (rounds_to binary64 n P.short P.under)) (omega arith)

  minus_some : (y : Float) → T (fits binary64 y) → T (not (is_minus_zero (p ⊖ y)))
  unfolding sub
  minus_some y h = add_not_minus binary64 p (neg y) fp (neg-fits binary64 y h) (positive_some p B)

  pub four_state : fast (fast (fast (record { s = p; c = zero_f }) p) p) p ≡ record { s = p ⊕ p ⊕ p ⊕ p; c = zero_f }
  four_state =
      let e = p ⊖ (p ⊕ p ⊕ p ⊖ (p ⊕ p)) in
      let nothing : zero_f ⊕ zero_f ≡ zero_f = unfold add of_bits in refl in
      rw (second, nothing, nothing_plus e (sub-fits binary64 p (p ⊕ p ⊕ p ⊖ (p ⊕ p))) (minus_some (p ⊕ p ⊕ p ⊖ (p ⊕ p)) (sub-fits binary64 (p ⊕ p ⊕ p) (p ⊕ p))), third) refl
