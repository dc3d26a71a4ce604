-- Proves what demand 3 rests on of doubles (01, Arithmetic underneath): `min_of_2` is at most its second where that is a number; and a finite number that is
-- not negative, times one that is finite and above zero, is a number, and a zero where it is not above zero.
use Rattle.std.specs.Prelude.{◌≡◌, refl, Bool, not, ◌&&◌, ◌||◌, cond, ℕ, zero, suc, ◌+◌, ◌*◌, ◌<◌, ◌^◌, ℤ, ltb, eqb, Float}
use Rattle.std.proofs.Common.{sym, ◌∙◌, mul-pos, zero-mul, arith, eqb→eq, nltb→le, lit<, pow_pos}
use Rattle.std.proofs.Math.Bool.{true, false}
use Rattle.std.specs.Bool.{beq}
use Rattle.std.proofs.Math.Dec.{T, eqb_refl}
use Rattle.std.specs.Float.{nan, inf, fin, Format, binary64}
use Rattle.std.specs.Float.Ieee.{prec, emax, up, down, low, odd, units, round, mul, lt, le, eq, is_nan, unlike, of_bits}
use Rattle.std.specs.Float.Ieee.Fits.{down_pos, eq→eqb, and_l, and_i}
use Rattle.std.specs.Float.Ieee.Scale.{finite}
use Rattle.std.specs.Float.Ieee.Exact.{HasValue, round_exact}
use Rattle.std.specs.Float.Ieee.Order.{round_mono}
use Rattle.numeric.specs.Double.{◌⊛◌, zero_f}
use Rattle.numeric.specs.Compare.{min_of2}

-- ---- a rounded fraction is a number

odd_number : (d : ℕ) (s : Bool) (q k l : ℕ) → T (not (is_nan (odd d s q k l)))
unfolding odd is_nan
odd_number d s zero k l = tt
odd_number d s (suc q) k l = tt

units_number : (f : Format) (s : Bool) (q k : ℕ) → T (not (is_nan (units f s q k)))
unfolding units is_nan
units_number f s q k = go (ltb (q * 2 ^ k) (2 ^ (low f + suc (emax f))))
  where
    go : (b : Bool) → T (not (is_nan (cond b (odd (suc (prec f)) s q k (low f)) (inf s))))
    go true = odd_number (suc (prec f)) s q k (low f)
    go false = tt

round_number : (f : Format) (s : Bool) (a c : ℕ) → T (not (is_nan (round f s a c)))
unfolding round
round_number f s a c = units_number f s _ _

-- ---- order

or_left : (a b : Bool) → T a → T (a || b)
or_left true b t = tt
or_left false b t = absurd t

or_right : (a b : Bool) → T b → T (a || b)
or_right true b t = tt
or_right false b t = t

or_other : (a b : Bool) → T (a || b) → T (not a) → T b
or_other true b t n = absurd n
or_other false b t n = t

pub le_self : (x : Float) → T (not (is_nan x)) → T (le x x)
unfolding le is_nan
le_self nan n = absurd n
le_self (inf true) n = tt
le_self (inf false) n = tt
le_self (fin true m e) n =
    or_right (ltb (m * up e * down e) (m * up e * down e)) _ (and_i (eqb (m * up e * down e) (m * up e * down e)) true (eqb_refl (m * up e * down e)) tt)
le_self (fin false m e) n =
    or_right (ltb (m * up e * down e) (m * up e * down e)) _ (and_i (eqb (m * up e * down e) (m * up e * down e)) true (eqb_refl (m * up e * down e)) tt)

pub min_le_second : (a b : Float) → T (not (is_nan b)) → T (le (min_of2 a b) b)
unfolding min_of2
min_le_second a b n = go (lt a b) (λ t. unfold le in (or_left (lt a b) (eq a b) t))
  where
    go : (c : Bool) → (T c → T (le a b)) → T (le (cond c a b) b)
    go true h = h tt
    go false h = le_self b n

-- ---- zeros

eqb_of : (a b : ℕ) → a ≡ b → T (eqb a b)
eqb_of a b h = eq→eqb h

zero_flat : (s : Bool) (m : ℕ) (e : ℤ) → m * up e ≡ 0 → T (eq (fin s m e) zero_f)
unfolding eq of_bits
zero_flat s m e h =
    and_i (eqb (m * up e * 1) (0 * 1 * down e)) (beq s false || eqb (m * up e * 1) 0) (eqb_of (m * up e * 1) (0 * 1 * down e) (omega arith))
    (or_right (beq s false) (eqb (m * up e * 1) 0) (eqb_of (m * up e * 1) 0 (omega arith)))

eq_swapped : (x : Float) → T (eq zero_f x) → T (eq x zero_f)
unfolding eq of_bits
eq_swapped nan t = absurd t
eq_swapped (inf s) t = absurd t
eq_swapped (fin s m e) t =
    zero_flat s m e
    (flat (eqb→eq (0 * 1 * down e) (m * up e * 1) (and_l (eqb (0 * 1 * down e) (m * up e * 1)) (beq false s || eqb (0 * 1 * down e) 0) t)))
  where
    flat : 0 * 1 * down e ≡ m * up e * 1 → m * up e ≡ 0
    flat h = omega arith

zero_between : (x : Float) → T (le zero_f x) → T (not (lt zero_f x)) → T (eq x zero_f)
unfolding le
zero_between x h n = eq_swapped x (or_other (lt zero_f x) (eq zero_f x) h n)

zero_rounded : round binary64 false 0 1 ≡ zero_f
unfolding round of_bits
zero_rounded = refl

at_least_zero : (a c : ℕ) → 0 < c → T (le zero_f (round binary64 false a c))
at_least_zero a c C = rw zero_rounded at (round_mono binary64 0 1 a c (lit< tt) C (omega arith))

first_zero : (a c : ℕ) → 0 < c → a * c ≡ 0 → a ≡ 0
first_zero zero c C h = refl
first_zero (suc a) c C h = absurd (clash (mul-pos (lit< {m = 0} {n = 1} tt) C))
  where
    clash : 0 < 1 * c → ⊥
    clash l = omega (arith, h)

value_zero : (x : Float) (s : Bool) (c : ℕ) → 0 < c → HasValue x s 0 c → T (eq x zero_f)
value_zero nan s c C h = absurd h
value_zero (inf t) s c C h = absurd h
value_zero (fin t m e) s c C h = zero_flat t m e (first_zero (m * up e) c C (h.1 ∙ zero-mul (down e)))

minus_zero : (c : ℕ) → 0 < c → T (eq (round binary64 true 0 c) zero_f)
minus_zero c C =
    value_zero (round binary64 true 0 c) true c C
    (round_exact binary64 true 0 c 0 0 C (pow_pos 53) (pow_pos 2098) (zero-mul (2 ^ low binary64) ∙ sym (zero-mul c)))

-- ---- products

mul_fin : (s : Bool) (m : ℕ) (e : ℤ) (t : Bool) (n : ℕ) (d : ℤ)
    → fin s m e ⊛ fin t n d ≡ round binary64 (unlike s t) (m * up e * (n * up d)) (down e * down d)
unfolding mul
mul_fin s m e t n d = refl

-- finite and not negative: a value with the sign set is a zero
not_under : (m : ℕ) (e : ℤ) → T (finite (fin true m e) && not (lt (fin true m e) zero_f)) → m * up e ≡ 0
unfolding lt of_bits
not_under m e p = omega (arith, nltb→le 0 (m * up e * 1 + 0 * 1 * down e) p)

not_above : (n : ℕ) (d : ℤ) → T (finite (fin true n d) && lt zero_f (fin true n d)) → ⊥
unfolding lt of_bits
not_above n d q = q

pub product_number : (x y : Float) → T (finite x && not (lt x zero_f)) → T (finite y && lt zero_f y) → T (not (is_nan (x ⊛ y)))
unfolding mul
product_number nan y p q = absurd p
product_number (inf s) y p q = absurd p
product_number (fin s m e) nan p q = absurd q
product_number (fin s m e) (inf t) p q = absurd q
product_number (fin s m e) (fin t n d) p q = round_number binary64 (unlike s t) (m * up e * (n * up d)) (down e * down d)

pub product_zero : (x y : Float) → T (finite x && not (lt x zero_f)) → T (finite y && lt zero_f y)
    → T (not (lt zero_f (x ⊛ y))) → T (eq (x ⊛ y) zero_f)
product_zero nan y p q n = absurd p
product_zero (inf s) y p q n = absurd p
product_zero (fin s m e) nan p q n = absurd q
product_zero (fin s m e) (inf t) p q n = absurd q
product_zero (fin s m e) (fin true k d) p q n = absurd (not_above k d q)
product_zero (fin false m e) (fin false k d) p q n =
    zero_between (fin false m e ⊛ fin false k d) (rw mul_fin (at_least_zero (m * up e * (k * up d)) (down e * down d) (mul-pos (down_pos e) (down_pos d)))) n
product_zero (fin true m e) (fin false k d) p q n = rw (mul_fin, not_under m e p, zero-mul) (minus_zero (down e * down d) (mul-pos (down_pos e) (down_pos d)))
