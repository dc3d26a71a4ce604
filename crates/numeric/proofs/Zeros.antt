-- Proves what zeros do in sums and products (01, Arithmetic underneath): x + 0 and x × 1 are x, a finite x times 0 is a zero, and a sum is -0 only where both
-- its parts are. For the last: a sum of two numbers that fit a format is a multiple of its smallest value, so that it is not rounded to zero.
use mathlib.Core.Path.{◌≡◌, refl, sym, ap, ◌∙◌, subst}
use mathlib.Core.Logic.{◌⊎◌, ⊎_elim, inl, inr}
use mathlib.Core.Bool.{Bool, true, false, not, cond, true≢false}
use Prim.Native.Nat.{◌∣◌, ℕ, zero, suc, ◌+◌, ◌-◌, ◌*◌, ◌/◌, ◌%◌, ◌^◌, ◌≤◌, ◌<◌, zero-le, compare}
use native.Mathlib.Nat.{add-zero, zero-add, mul-zero, sub-zero, zero-mul, mul-one, one-mul, mul_comm, mul_assoc, mul-pos, mul-le-mul, le_trans, le_of_eq, lt_irrefl, zero-lt-suc, le-div_iff_mul-le, div-div-eq-div-mul, dvd-mul_left, pow-succ', le_of_lt, dvd-add, dvd-sub, le_of_dvd}
use native.Mathlib.Omega.{arith}
use borrow.Author.Tests.{lt-ltb, le-ltb}
use lib.IntN.{ℤ, pos, negsuc}
use lib.Dec.{T, leb, ltb, ltb→lt, nleb→lt, leb→le, eqb→eq}
use lib.Pow.{pow-add, pow_pos}
use lib.Ieee.{Float, nan, inf, fin, Format, unlike, prec, emax, low, up, down, size, nearest, odd, units, round, sum, add, mul, fits}
use lib.Ieee.Digits.{back, size-lt, size_reaches}
use lib.Ieee.Fits.{up_pos, down_pos, round_is, two, two-le_pos}
use lib.Ieee.Exact.{HasValue, odd_sign}
use lib.Ieee.Nearest.{nearest-ge}
use lib.Ieee.Scale.{round_same}
use Rattle.numeric.specs.Zeros.{signed_zero}
use Rattle.numeric.proofs.Rounding.{round_self, fits_bounds}

abbrev pub is_minus_zero : Float → Bool
is_minus_zero nan = false
is_minus_zero (inf s) = false
is_minus_zero (fin s zero e) = s
is_minus_zero (fin s (suc m) e) = false

-- a zero that fits is written in one way
even_one : (p : ℕ) → 0 < p → 2 * p ≡ 1 → ⊥
even_one p h e = omega arith

no_power : (e : ℤ) → up e * down e ≡ 1 → e ≡ pos 0
no_power (pos zero) h = refl
no_power (pos (suc k)) h = absurd (even_one (2 ^ k) (pow_pos k) (sym (pow-succ' 2 k) ∙ sym (mul-one (2 ^ suc k)) ∙ h))
no_power (negsuc k) h = absurd (even_one (2 ^ k) (pow_pos k) (sym (pow-succ' 2 k) ∙ sym (one-mul (2 ^ suc k)) ∙ h))

pub zero_written : (f : Format) (s : Bool) (e : ℤ) → T (fits f (fin s zero e)) → fin s zero e ≡ signed_zero s
unfolding fits
zero_written f s e p = ap (λ (x : ℤ). fin s 0 x) (no_power e (eqb→eq (up e * down e) 1 p))

zero_fits : (f : Format) (s : Bool) → T (fits f (signed_zero s))
unfolding fits
zero_fits f s = tt

round_zero : (f : Format) (s : Bool) (c : ℕ) → 0 < c → round f s 0 c ≡ signed_zero s
round_zero f s c C = round_same f s 0 c 0 1 C (zero-lt-suc 0) (simp (zero-mul)) ∙ round_self f s 0 (pos 0) (zero_fits f s)

-- ---- x + 0, x × 0 and x × 1
sum_zero : (f : Format) (s : Bool) (a : ℕ) (t : Bool) (c : ℕ) → (s ≡ true → 0 < a) → sum f s a t 0 c ≡ round f s a c
unfolding sum
sum_zero f true a true c h = rw add-zero
sum_zero f false a false c h = rw add-zero
sum_zero f true a false c h = rw (le-ltb a 0 zero-le, lt-ltb 0 a (h refl), sub-zero)
sum_zero f false a true c h = rw (le-ltb a 0 zero-le, sub-zero)

above_zero : (s : Bool) (m : ℕ) (e : ℤ) (u : ℕ) → 0 < u → T (not (is_minus_zero (fin s m e))) → s ≡ true → 0 < m * u
above_zero true zero e u U h q = absurd h
above_zero false zero e u U h q = absurd (true≢false (sym q))
above_zero s (suc m) e u U h q = mul-pos (zero-lt-suc m) U

pub plus_zero : (f : Format) (s : Bool) (m : ℕ) (e : ℤ) (t : Bool) → T (fits f (fin s m e)) → T (not (is_minus_zero (fin s m e))) → add f (fin s m e) (signed_zero t) ≡ fin s m e
unfolding add
plus_zero f s m e t p h =
    rw (zero-mul (down e), mul-one (m * up e), mul-one (down e))
    (sum_zero f s (m * up e) t (down e) (above_zero s m e (up e) (up_pos e) h) ∙ round_self f s m e p)

zero_sum : (f : Format) (t : Bool) (b c : ℕ) → (t ≡ true → 0 < b) → sum f false 0 t b c ≡ round f t b c
unfolding sum
zero_sum f true b c h = rw (lt-ltb 0 b (h refl), sub-zero)
zero_sum f false b c h = rw zero-add

pub zero_plus : (f : Format) (t : Bool) (n : ℕ) (g : ℤ) → T (fits f (fin t n g)) → T (not (is_minus_zero (fin t n g))) → add f (signed_zero false) (fin t n g) ≡ fin t n g
unfolding add
zero_plus f t n g p h =
    rw (zero-mul (down g), mul-one (n * up g), one-mul (down g)) (zero_sum f t (n * up g) (down g) (above_zero t n g (up g) (up_pos g) h) ∙ round_self f t n g p)

pub times_zero : (f : Format) (s : Bool) (m : ℕ) (e : ℤ) (t : Bool) → mul f (fin s m e) (signed_zero t) ≡ signed_zero (unlike s t)
unfolding mul
times_zero f s m e t = rw (zero-mul, mul-zero, mul-one) (round_zero f (unlike s t) (down e) (down_pos e))

pub zero_times : (f : Format) (s : Bool) (t : Bool) (n : ℕ) (g : ℤ) → mul f (signed_zero s) (fin t n g) ≡ signed_zero (unlike s t)
unfolding mul
zero_times f s t n g = rw (zero-mul (n * up g), one-mul (down g)) (round_zero f (unlike s t) (down g) (down_pos g))

pub times_one : (f : Format) (s : Bool) (m : ℕ) (e : ℤ) → T (fits f (fin s m e)) → mul f (fin s m e) (fin false 1 (pos 0)) ≡ fin s m e
unfolding mul
times_one f true m e h = rw (mul-one (m * up e), mul-one (down e)) (round_self f true m e h)
times_one f false m e h = rw (mul-one (m * up e), mul-one (down e)) (round_self f false m e h)

-- ---- a number that fits is a multiple of the smallest value, and so is a sum of two
down_power : (e : ℤ) → (i : ℕ) × (down e ≡ 2 ^ i)
down_power (pos k) = (0, refl)
down_power (negsuc k) = (suc k, refl)

fits_down : (f : Format) (s : Bool) (m : ℕ) (e : ℤ) → T (fits f (fin s m e)) → down e ≤ 2 ^ low f
unfolding fits
fits_down f s zero e h = rw (no_power e (eqb→eq (up e * down e) 1 h)) (pow_pos (low f))
fits_down f s (suc m) e h = (fits_bounds f s m e h).1

divides_larger : (i j x : ℕ) → i ≤ j → 2 ^ i ∣ x * 2 ^ j
divides_larger i j x h = subst (λ (z : ℕ). 2 ^ i ∣ z) (mul_assoc x (2 ^ (j - i)) (2 ^ i) ∙ ap (λ (z : ℕ). x * z) (sym (pow-add 2 (j - i) i) ∙ ap (λ (z : ℕ). 2 ^ z) (back j i h))) (dvd-mul_left (2 ^ i) (x * 2 ^ (j - i)))

-- g, which is divided by each power of two that divides both parts of the sum, is at least one smallest value
at_least : (i j g l : ℕ) → 0 < g → 2 ^ i ∣ g → 2 ^ j ≤ l → 2 ^ i * 2 ^ j ≤ g * l
at_least i j g l G d h = mul-le-mul (le_of_dvd G d) h

pub in_order : (i j : ℕ) → (i ≤ j) ⊎ (j ≤ i)
in_order i j = go (leb i j) (leb→le i j) (nleb→lt i j)
  where
    go : (b : Bool) → (T b → i ≤ j) → (T (not b) → j < i) → (i ≤ j) ⊎ (j ≤ i)
    go true h k = inl (h tt)
    go false h k = inr (le_of_lt (k tt))

one_unit : (i j x y l g : ℕ) → 2 ^ i ≤ l → 2 ^ j ≤ l → 0 < g → ((k : ℕ) → 2 ^ k ∣ x * 2 ^ j → 2 ^ k ∣ y * 2 ^ i → 2 ^ k ∣ g) → 2 ^ i * 2 ^ j ≤ g * l
one_unit i j x y l g hi hj G d =
    ⊎_elim (λ h. at_least i j g l G (d i (divides_larger i j x h) (dvd-mul_left (2 ^ i) y)) hj)
    (λ h. le_trans (le_of_eq (mul_comm (2 ^ i) (2 ^ j))) (at_least j i g l G (d j (dvd-mul_left (2 ^ j) x) (divides_larger j i y h)) hi)) (in_order i j)

-- ---- a fraction of at least one smallest value is not rounded to zero
value_not_zero : (x : Float) (s : Bool) (a c : ℕ) → 0 < a → HasValue x s a c → T (not (is_minus_zero x))
value_not_zero nan s a c A v = tt
value_not_zero (inf t) s a c A v = tt
value_not_zero (fin t zero e) s a c A v = absurd (lt_irrefl 0 (subst (λ (z : ℕ). 0 < z) (sym v.1 ∙ simp (zero-mul)) (mul-pos A (down_pos e))))
value_not_zero (fin t (suc m) e) s a c A v = tt

plus_not_minus : (x : Float) (a c : ℕ) → HasValue x false a c → T (not (is_minus_zero x))
plus_not_minus nan a c v = tt
plus_not_minus (inf t) a c v = tt
plus_not_minus (fin t zero e) a c v = subst (λ (b : Bool). T (not b)) (sym v.0) tt
plus_not_minus (fin t (suc m) e) a c v = tt

by_cond : (b : Bool) (x y : Float) → (T b → T (not (is_minus_zero x))) → (T (not b) → T (not (is_minus_zero y))) → T (not (is_minus_zero (cond b x y)))
by_cond true x y p q = p tt
by_cond false x y p q = q tt

units_not_zero : (f : Format) (s : Bool) (q k : ℕ) → 0 < q → T (not (is_minus_zero (units f s q k)))
unfolding units
units_not_zero f s q k Q =
    by_cond (ltb (q * 2 ^ k) (2 ^ (low f + suc (emax f)))) (odd (suc (prec f)) s q k (low f)) (inf s)
    (λ h. value_not_zero (odd (suc (prec f)) s q k (low f)) s (q * 2 ^ k) (2 ^ low f) (mul-pos Q (pow_pos k)) (odd_sign (suc (prec f)) s q k (low f))) (λ h. tt)

units_plus : (f : Format) (q k : ℕ) → T (not (is_minus_zero (units f false q k)))
unfolding units
units_plus f q k =
    by_cond (ltb (q * 2 ^ k) (2 ^ (low f + suc (emax f)))) (odd (suc (prec f)) false q k (low f)) (inf false)
    (λ h. plus_not_minus (odd (suc (prec f)) false q k (low f)) (q * 2 ^ k) (2 ^ low f) (odd_sign (suc (prec f)) false q k (low f))) (λ h. tt)

fewer : (w p z : ℕ) → 0 < w → w < 2 ^ z → 0 < p → z - p < z
fewer w p zero W h P = absurd (omega (arith, h))
fewer w p (suc z) W h P = omega arith

round_not_zero : (f : Format) (s : Bool) (num den : ℕ) → 0 < den → den ≤ num * 2 ^ low f → T (not (is_minus_zero (round f s num den)))
round_not_zero f s num den D h =
    let n = num * 2 ^ low f in
    let w = n / den in
    let W : 0 < w = (le-div_iff_mul-le D).1 (le_trans (le_of_eq (one-mul den)) h) in
    let k = size w - prec f in
    let u = den * 2 ^ k in
    let r : 2 ^ k ≤ w = size_reaches w k (fewer w (prec f) (size w) W (size-lt w) (two-le_pos (prec f) (two f))) in
    let o : 1 ≤ n / u = subst (λ (z : ℕ). 1 ≤ z) (div-div-eq-div-mul n den (2 ^ k)) ((le-div_iff_mul-le (pow_pos k)).1 (le_trans (le_of_eq (one-mul (2 ^ k))) r)) in
    subst (λ (z : Float). T (not (is_minus_zero z))) (sym (round_is f s num den))
    (units_not_zero f s (nearest (n / u) (compare (n % u * 2) u)) k (le_trans o (nearest-ge (n / u) (compare (n % u * 2) u))))

round_plus : (f : Format) (num den : ℕ) → T (not (is_minus_zero (round f false num den)))
round_plus f num den =
    let n = num * 2 ^ low f in
    let k = size (n / den) - prec f in
    subst (λ (z : Float). T (not (is_minus_zero z))) (sym (round_is f false num den)) (units_plus f (nearest (n / (den * 2 ^ k)) (compare (n % (den * 2 ^ k) * 2) (den * 2 ^ k))) k)

by_sign : (f : Format) (b : Bool) (num den : ℕ) → (T b → T (not (is_minus_zero (round f true num den)))) → T (not (is_minus_zero (round f b num den)))
by_sign f true num den h = h tt
by_sign f false num den h = round_plus f num den

sum_not_minus : (f : Format) (s : Bool) (a : ℕ) (t : Bool) (b c : ℕ) → 0 < c → (s ≡ true → 0 < a) → ((g : ℕ) → 0 < g → ((k : ℕ) → 2 ^ k ∣ a → 2 ^ k ∣ b → 2 ^ k ∣ g) → c ≤ g * 2 ^ low f) → T (not (is_minus_zero (sum f s a t b c)))
unfolding sum
sum_not_minus f true a true b c C h r = round_not_zero f true (a + b) c C (r (a + b) (le_trans (h refl) (omega arith)) (λ k u w. dvd-add (2 ^ k) u w))
sum_not_minus f false a false b c C h r = round_plus f (a + b) c
sum_not_minus f true a false b c C h r =
    by_cond (ltb a b) (round f false (b - a) c) (round f (ltb b a) (a - b) c) (λ l. round_plus f (b - a) c)
    (λ l. by_sign f (ltb b a) (a - b) c (λ g. let d : b < a = ltb→lt b a g in round_not_zero f true (a - b) c C (r (a - b) (omega arith) (λ k u w. dvd-sub (2 ^ k) u w))))
sum_not_minus f false a true b c C h r =
    by_cond (ltb a b) (round f true (b - a) c) (round f false (a - b) c)
    (λ l. let d : a < b = ltb→lt a b l in round_not_zero f true (b - a) c C (r (b - a) (omega arith) (λ k u w. dvd-sub (2 ^ k) w u)))
    (λ l. round_plus f (a - b) c)

-- the law: a sum is -0 only where both its parts are
pub add_not_minus : (f : Format) (x y : Float) → T (fits f x) → T (fits f y) → T (not (is_minus_zero x)) → T (not (is_minus_zero (add f x y)))
unfolding add
add_not_minus f nan y p q h = tt
add_not_minus f (inf s) nan p q h = tt
add_not_minus f (inf true) (inf true) p q h = tt
add_not_minus f (inf true) (inf false) p q h = tt
add_not_minus f (inf false) (inf true) p q h = tt
add_not_minus f (inf false) (inf false) p q h = tt
add_not_minus f (inf s) (fin t n g) p q h = tt
add_not_minus f (fin s m e) nan p q h = tt
add_not_minus f (fin s m e) (inf t) p q h = tt
add_not_minus f (fin s m e) (fin t n g) p q h =
    let i = down_power e in
    let j = down_power g in
    sum_not_minus f s (m * up e * down g) t (n * up g * down e) (down e * down g) (mul-pos (down_pos e) (down_pos g))
    (λ b. mul-pos (above_zero s m e (up e) (up_pos e) h b) (down_pos g))
    (λ x X d.
    rw (i.1, j.1)
    (one_unit i.0 j.0 (m * up e) (n * up g) (2 ^ low f) x (rw i.1 at (fits_down f s m e p)) (rw j.1 at (fits_down f t n g q)) X (λ k u w. d k (rw j.1 u) (rw i.1 w))))
