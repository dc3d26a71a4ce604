-- Proves that a number which fits a format is what its own value rounds to, and is the only one that fits with that value and sign (01, Arithmetic underneath:
-- one rounding an operation). So operations that are exact, as x + 0 and x × 1, give back x itself.
use mathlib.Core.Path.{◌≡◌, refl, sym, ap, ◌∙◌, subst}
use mathlib.Core.Bool.{Bool, ◌&&◌, cond}
use Prim.Native.Nat.{ℕ, zero, suc, ◌+◌, ◌-◌, ◌*◌, ◌/◌, ◌%◌, ◌^◌, ◌≤◌, ◌<◌}
use native.Mathlib.Nat.{zero-mul, mul-one, mul_comm, mul_assoc, mul_right_comm, eq_of_mul-eq-mul_right, lt_of_mul-lt-mul_right, mul-lt-mul_of_pos_right, le_of_suc-le-suc, lt_of_not-le, lt_irrefl, lt_of_lt_of_le}
use lib.IntN.{ℤ, pos, negsuc}
use lib.Dec.{T, leb, ltb, eqb, leb→le, ltb→lt}
use lib.Pow.{pow-add, pow_pos, pow-lt}
use lib.Ieee.{Float, nan, inf, fin, Format, prec, emax, low, up, down, size, hid, top, round, to_bits, of_bits, fits}
use lib.Ieee.Digits.{back}
use lib.Ieee.Bits.{of_bits-to_bits}
use lib.Ieee.Fits.{and_l, and_r, down_pos, round-fits}
use lib.Ieee.Exact.{HasValue, round_exact}
use lib.Ieee.Nearest.{div_same}

-- ---- two numbers that fit, with one sign and one value, have the same bits
cross : (x y d d' a c : ℕ) → 0 < c → x * c ≡ a * d → y * c ≡ a * d' → x * d' ≡ y * d
cross x y d d' a c C p q =
    eq_of_mul-eq-mul_right c C (x * d') (y * d)
    (mul_right_comm x d' c ∙ ap (λ (z : ℕ). z * d') p ∙ mul_right_comm a d d' ∙ ap (λ (z : ℕ). z * d) (sym q) ∙ mul_right_comm y c d)

same_bits : (f : Format) (s t : Bool) (m : ℕ) (e : ℤ) (n : ℕ) (g : ℤ) → s ≡ t → m * up e * down g ≡ n * up g * down e → to_bits f (fin s m e) ≡ to_bits f (fin t n g)
unfolding to_bits
same_bits f s t m e n g b h =
    let l = 2 ^ low f in
    ap (λ (z : ℕ). cond s (top f) 0 + (size z - prec f) * hid f + z / 2 ^ (size z - prec f))
    (div_same (m * up e * l) (down e) (n * up g * l) (down g) (down_pos e) (down_pos g)
    (mul_right_comm (m * up e) l (down g) ∙ ap (λ (z : ℕ). z * l) h ∙ mul_right_comm (n * up g) (down e) l))
    ∙ ap (λ (z : Bool). cond z (top f) 0 + (size (n * up g * l / down g) - prec f) * hid f + n * up g * l / down g / 2 ^ (size (n * up g * l / down g) - prec f)) b

pub unique : (f : Format) (x y : Float) (s : Bool) (a c : ℕ) → 0 < c → T (fits f x) → T (fits f y) → HasValue x s a c → HasValue y s a c → x ≡ y
unique f nan y s a c C p q v w = absurd v
unique f (inf t) y s a c C p q v w = absurd v
unique f (fin t m e) nan s a c C p q v w = absurd w
unique f (fin t m e) (inf u) s a c C p q v w = absurd w
unique f (fin t m e) (fin u n g) s a c C p q v w =
    sym (of_bits-to_bits f (fin t m e) p)
    ∙ ap (λ (z : ℕ). of_bits f z) (same_bits f t u m e n g (v.0 ∙ sym w.0) (cross (m * up e) (n * up g) (down e) (down g) a c C v.1 w.1))
    ∙ of_bits-to_bits f (fin u n g) q

-- ---- m × 2 ^ e in units of the format's smallest value
pow_le_back : (a l : ℕ) → 2 ^ a ≤ 2 ^ l → a ≤ l
pow_le_back a l h = le_of_suc-le-suc (lt_of_not-le (λ (g : suc l ≤ a). lt_irrefl (2 ^ l) (lt_of_lt_of_le (pow-lt g) h)))

pub in_units : (l : ℕ) (e : ℤ) → down e ≤ 2 ^ l → (j : ℕ) × ((m : ℕ) → m * up e * 2 ^ l ≡ m * 2 ^ j * down e)
in_units l (pos a) h = (a + l, λ m. mul_assoc m (2 ^ a) (2 ^ l) ∙ ap (λ (x : ℕ). m * x) (sym (pow-add 2 a l)) ∙ sym (mul-one (m * 2 ^ (a + l))))
in_units l (negsuc a) h =
    let le : suc a ≤ l = pow_le_back (suc a) l h in (
      l - suc a,
      λ m.
          ap (λ (x : ℕ). x * 2 ^ l) (mul-one m)
          ∙ ap (λ (x : ℕ). m * x) (ap (λ (x : ℕ). 2 ^ x) (sym (back l (suc a) le)) ∙ pow-add 2 (l - suc a) (suc a))
          ∙ sym (mul_assoc m (2 ^ (l - suc a)) (2 ^ suc a)),
    )

pub in_range : (m u d l E j : ℕ) → 0 < d → m * u < 2 ^ E * d → m * u * 2 ^ l ≡ m * 2 ^ j * d → m * 2 ^ j < 2 ^ (l + E)
in_range m u d l E j D h e =
    lt_of_mul-lt-mul_right d
    (subst (λ (x : ℕ). x < 2 ^ (l + E) * d) e
    (subst (λ (x : ℕ). m * u * 2 ^ l < x)
    (mul_right_comm (2 ^ E) d (2 ^ l) ∙ ap (λ (x : ℕ). x * d) (mul_comm (2 ^ E) (2 ^ l) ∙ sym (pow-add 2 l E)))
    (mul-lt-mul_of_pos_right h (pow_pos l))))

-- what `fits` says of a number that is not zero
pub fits_bounds : (f : Format) (s : Bool) (m : ℕ) (e : ℤ) → T (fits f (fin s (suc m) e)) → (suc m < 2 ^ prec f) × (down e ≤ 2 ^ low f) × (suc m * up e < 2 ^ suc (emax f) * down e)
unfolding fits
fits_bounds f s m e h =
    let a = eqb (suc m % 2) 1 in
    let b = ltb (suc m) (2 ^ prec f) in
    let c = leb (down e) (2 ^ low f) in
    let d = ltb (suc m * up e) (2 ^ suc (emax f) * down e) in (
      ltb→lt (suc m) (2 ^ prec f) (and_r a b (and_l (a && b) c (and_l (a && b && c) d h))),
      leb→le (down e) (2 ^ low f) (and_r (a && b) c (and_l (a && b && c) d h)),
      ltb→lt (suc m * up e) (2 ^ suc (emax f) * down e) (and_r (a && b && c) d h),
    )

-- the law
pub round_self : (f : Format) (s : Bool) (m : ℕ) (e : ℤ) → T (fits f (fin s m e)) → round f s (m * up e) (down e) ≡ fin s m e
round_self f s zero e h =
    unique f (round f s (zero * up e) (down e)) (fin s zero e) s (zero * up e) (down e) (down_pos e) (round-fits f s (zero * up e) (down e)) h
    (round_exact f s (zero * up e) (down e) 0 0 (down_pos e) (pow_pos (prec f)) (pow_pos (low f + suc (emax f))) (simp (zero-mul))) (refl, refl)
round_self f s (suc m) e h =
    let bounds = fits_bounds f s m e h in
    let w = in_units (low f) e bounds.1 in
    unique f (round f s (suc m * up e) (down e)) (fin s (suc m) e) s (suc m * up e) (down e) (down_pos e) (round-fits f s (suc m * up e) (down e)) h
    (round_exact f s (suc m * up e) (down e) (suc m) w.0 (down_pos e) bounds.0 (in_range (suc m) (up e) (down e) (low f) (suc (emax f)) w.0 (down_pos e) bounds.2 (w.1 (suc m))) (w.1 (suc m))) (refl, refl)
