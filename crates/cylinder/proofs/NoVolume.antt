-- Proves that no volume to speak of is a volume of at most 1e-10 (01, Tank; Arithmetic underneath): 1e-9 of a larger volume is less than that volume.
use mathlib.Core.Path.{◌≡◌, refl, ap, ◌∙◌}
use mathlib.Core.Bool.{Bool, true, false, ◌||◌}
use Prim.Native.Nat.{ℕ, zero, suc, ◌+◌, ◌-◌, ◌*◌, ◌^◌, ◌≤◌, ◌<◌}
use native.Mathlib.Nat.{pow-suc, one-mul, mul-one, mul-pos, zero-lt-suc, mul-le-mul_right, mul-lt-mul_of_pos_right, lt_of_mul-lt-mul_right, lt_of_not-le, lt_of_le_of_lt, lt_trans, lt_irrefl}
use native.Mathlib.Omega.{arith}
use borrow.Author.Tests.{lt-ltb, le-ltb, ne_eqb}
use lib.Dec.{T, leb→le, lt→ltb}
use lib.Pow.{pow-add, pow_pos, pow_mono, shl_lt}
use lib.IntN.{ℤ, pos, negsuc}
use lib.Ieee.{Float, nan, inf, fin, binary64, up, down, lt, le, eq, neg, add, sub, mul, round, fits, of_bits}
use lib.Ieee.Fits.{up_pos, down_pos}
use lib.Ieee.Exact.{HasValue, round_exact}
use lib.Ieee.Order.{round_mono}
use lib.Ieee.Positive.{positive, positive_of_value, cross→le, values_of_le, le_trans_positive, between}
use Rattle.numeric.specs.Double.{◌⊖◌, ◌⊛◌, zero_f, relative_tolerance, wide_tolerance}
use Rattle.numeric.specs.Compare.{max_of2}
use Rattle.numeric.specs.Close.{magnitude, infinite, within, close, wide_close}
use Rattle.numeric.proofs.Zeros.{zero_written, plus_zero}
use Rattle.numeric.proofs.Rounding.{fits_bounds}
use Rattle.cylinder.specs.Layers.{no_volume}

-- ---- the numbers met, written out
abbrev none : Float
none = fin false 0 (pos 0)

abbrev wide : Float
wide = fin false 0x1b_7cdf_d9d7_bdbb (negsuc 85)

zero_is : zero_f ≡ none
unfolding of_bits
zero_is = refl

abbrev billionth : Float
billionth = fin false 0x11_2e0b_e826_d695 (negsuc 81)

relative_is : relative_tolerance ≡ billionth
unfolding of_bits
relative_is = refl

wide_is : wide_tolerance ≡ wide
unfolding of_bits
wide_is = refl

-- ---- what is not a number, infinite, or below zero
at_nan : no_volume nan ≡ le nan wide_tolerance
unfolding no_volume wide_close close infinite within magnitude lt le eq sub add of_bits
at_nan = refl

at_inf : (s : Bool) → no_volume (inf s) ≡ le (inf s) wide_tolerance
unfolding no_volume wide_close close infinite lt le eq of_bits
at_inf true = refl
at_inf false = refl

minus_below : (m : ℕ) (e : ℤ) (n : ℕ) (g : ℤ) → lt (fin true (suc m) e) (fin false n g) ≡ true
unfolding lt
minus_below m e n g =
    let p : 0 < suc m * up e * down g = mul-pos (mul-pos (zero-lt-suc m) (up_pos e)) (down_pos g) in
    lt-ltb 0 (suc m * up e * down g + n * up g * down e) (omega arith)

at_zero : (s : Bool) → no_volume (fin s 0 (pos 0)) ≡ le (fin s 0 (pos 0)) wide_tolerance
unfolding no_volume wide_close close lt le eq of_bits
at_zero true = refl
at_zero false = refl

at_minus : (m : ℕ) (e : ℤ) → no_volume (fin true (suc m) e) ≡ le (fin true (suc m) e) wide_tolerance
unfolding no_volume le
at_minus m e = rw (zero_is, wide_is, minus_below m e 0 (pos 0), minus_below m e 0x1b_7cdf_d9d7_bdbb (negsuc 85))

-- ---- above zero: half of it is a double, which 1e-9 of it does not pass
above_none : (m : ℕ) (e : ℤ) → lt none (fin false (suc m) e) ≡ true
unfolding lt
above_none m e =
    let p : 0 < suc m * up e = mul-pos (zero-lt-suc m) (up_pos e) in
    lt-ltb (0 * 1 * down e) (suc m * up e * 1) (omega arith)

not_below_none : (m : ℕ) (e : ℤ) → lt (fin false m e) none ≡ false
unfolding lt
not_below_none m e = le-ltb (m * up e * 1) (0 * 1 * down e) (omega arith)

not_none : (m : ℕ) (e : ℤ) → eq (fin false (suc m) e) none ≡ false
unfolding eq
not_none m e =
    let p : 0 < suc m * up e = mul-pos (zero-lt-suc m) (up_pos e) in
    rw (ne_eqb (suc m * up e * 1) (0 * 1 * down e) (λ z. omega arith))

less_none : (m : ℕ) (e : ℤ) → T (fits binary64 (fin false (suc m) e)) → fin false (suc m) e ⊖ none ≡ fin false (suc m) e
unfolding sub neg
less_none m e h = plus_zero binary64 false (suc m) e true h tt

-- half of m × 2^e is a whole number of units of 2^-l
abbrev Halves : ℕ → ℤ → Type 0
Halves l (pos a) = 1 ≤ l
Halves l (negsuc a) = suc (suc a) ≤ l

regroup : (m p q : ℕ) → m * p * (q * 2) ≡ m * (p * q) * (1 * 2)
regroup m p q = omega arith

regroup_down : (m p q : ℕ) → m * 1 * (p * (q * 2)) ≡ m * p * (q * 2)
regroup_down m p q = omega arith

half_units : (l m : ℕ) (e : ℤ) → Halves l e → (j : ℕ) × (m * up e * 2 ^ l ≡ m * 2 ^ j * (down e * 2))
half_units zero m (pos a) h = absurd (omega arith)
half_units (suc k) m (pos a) h = (a + k, rw (pow-add 2 a k, pow-suc) (regroup m (2 ^ a) (2 ^ k)))
half_units l m (negsuc a) h =
    let e : l ≡ l - suc (suc a) + suc (suc a) = omega arith in
    (l - suc (suc a), (ap (λ (x : ℕ). m * 1 * 2 ^ x) e ∙ rw (pow-add 2 (l - suc (suc a)) (suc (suc a)), pow-suc 2 (suc a)) (regroup_down m (2 ^ (l - suc (suc a))) (2 ^ suc a))))

doubled : (p q d : ℕ) → p * q * (d * 2) ≡ q * d * p + q * d * p
doubled p q d = omega arith

in_range : (x u d l k : ℕ) → 0 < d → u < 2 ^ k * d → u * 2 ^ l ≡ x * (d * 2) → x < 2 ^ (l + k)
in_range x u d l k D h e =
    let below : u * 2 ^ l < 2 ^ k * d * 2 ^ l = mul-lt-mul_of_pos_right h (pow_pos l) in
    let twice : 2 ^ (l + k) * (d * 2) ≡ 2 ^ k * d * 2 ^ l + 2 ^ k * d * 2 ^ l = rw (pow-add 2 l k) (doubled (2 ^ l) (2 ^ k) d) in
    lt_of_mul-lt-mul_right (d * 2) (omega arith)

-- a number above 1e-10 is not so small that half of it is none
power_back : (a b : ℕ) → 2 ^ a < 2 ^ b → a < b
power_back a b h = lt_of_not-le (λ (g : b ≤ a). lt_irrefl (2 ^ b) (lt_of_le_of_lt (pow_mono g) h))

not_small : (m : ℕ) (e : ℤ) (w : ℕ) → 0 < w → suc m < 2 ^ 53 → w * down e < suc m * up e * 2 ^ 86 → Halves 1074 e
not_small m (pos a) w W h above = omega arith
not_small m (negsuc a) w W h above =
    let top : suc m * 2 ^ 86 < 2 ^ (53 + 86) = shl_lt 53 86 h in
    let least : 1 * 2 ^ suc a ≤ w * 2 ^ suc a = mul-le-mul_right (2 ^ suc a) W in
    let b : suc a < 53 + 86 = power_back (suc a) (53 + 86) (lt_trans (lt_of_le_of_lt (rw one-mul at least) above) (rw mul-one top)) in
    omega arith

scaled : (r b x d : ℕ) → r * 2 ≤ b → r * 1 * x * (d * 2) ≤ x * (b * d)
scaled r b x d h =
    let most : r * 2 * (x * d) ≤ b * (x * d) = mul-le-mul_right (x * d) h in
    let one : r * 1 * x * (d * 2) ≡ r * 2 * (x * d) = omega arith in
    let other : x * (b * d) ≡ b * (x * d) = omega arith in
    omega arith

no_half : (x d : ℕ) → 0 < x * d → x * (d * 2) ≤ x * d → ⊥
no_half x d h l = let e : x * (d * 2) ≡ x * d + x * d = omega arith in omega arith

module _ (m : ℕ) (e : ℤ) (h : T (fits binary64 (fin false (suc m) e))) where
  abbrev volume : Float
  volume = fin false (suc m) e

  abbrev half : Float
  half = round binary64 false (suc m * up e) (down e * 2)

  above_zero : 0 < suc m * up e
  above_zero = mul-pos (zero-lt-suc m) (up_pos e)

  is_positive : T (positive volume)
  is_positive = lt→ltb 0 (suc m) (zero-lt-suc m)

  half_value : Halves 1074 e → HasValue half false (suc m * up e) (down e * 2)
  half_value n =
      let b = fits_bounds binary64 false m e h in
      let w = half_units 1074 (suc m) e n in
      round_exact binary64 false (suc m * up e) (down e * 2) (suc m) w.0 (mul-pos (down_pos e) (zero-lt-suc 1)) b.0 (in_range (suc m * 2 ^ w.0) (suc m * up e) (down e) 1074 1024 (down_pos e) b.2 w.1) w.1

  product_below : T (le (billionth ⊛ volume) half)
  unfolding mul
  product_below =
      round_mono binary64 (0x11_2e0b_e826_d695 * 1 * (suc m * up e)) (2 ^ 82 * down e) (suc m * up e) (down e * 2) (mul-pos (pow_pos 82) (down_pos e)) (mul-pos (down_pos e) (zero-lt-suc 1))
      (scaled 0x11_2e0b_e826_d695 (2 ^ 82) (suc m * up e) (down e) (leb→le _ _ tt))

  product_less : Halves 1074 e → le volume (billionth ⊛ volume) ≡ false
  product_less n = go (le volume (billionth ⊛ volume)) refl
    where
      go : (b : Bool) → le volume (billionth ⊛ volume) ≡ b → b ≡ false
      go false q = refl
      go true q =
          let passed : T (le volume (billionth ⊛ volume)) = rw q tt in
          let value = half_value n in
          let halved = positive_of_value half (suc m * up e) (down e * 2) value above_zero in
          let product = between volume (billionth ⊛ volume) half is_positive halved passed product_below in
          let most = le_trans_positive volume (billionth ⊛ volume) half is_positive product halved passed product_below in
          absurd (no_half (suc m * up e) (down e) (mul-pos above_zero (down_pos e)) (values_of_le volume half (suc m * up e) (down e) (suc m * up e) (down e * 2) is_positive halved (refl, refl) value most))

  not_passed : le volume wide ≡ false → Halves 1074 e
  not_passed q = not_small m e (0x1b_7cdf_d9d7_bdbb * 1) (leb→le _ _ tt) (fits_bounds binary64 false m e h).0 (lt_of_not-le (λ g. absurd (rw q at (cross→le volume wide is_positive tt g))))

  at_plus : no_volume volume ≡ le volume wide_tolerance
  unfolding no_volume wide_close close infinite within magnitude max_of2
  at_plus = rw (zero_is, wide_is, relative_is, less_none m e h, not_below_none (suc m) e, not_none m e, not_below_none 0 (pos 0), above_none m e) (go (le volume wide) refl)
    where
      go : (b : Bool) → le volume wide ≡ b → (b || le volume (billionth ⊛ volume)) ≡ b
      go true q = refl
      go false q = product_less (not_passed q)

-- ---- the law
pub no_volume_lem : (v : Float) → T (fits binary64 v) → no_volume v ≡ le v wide_tolerance
no_volume_lem nan h = at_nan
no_volume_lem (inf s) h = at_inf s
no_volume_lem (fin s zero e) h = rw (zero_written binary64 s e h) (at_zero s)
no_volume_lem (fin true (suc m) e) h = at_minus m e
no_volume_lem (fin false (suc m) e) h = at_plus m e h
