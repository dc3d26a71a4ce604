-- Proves that p + p + p + p, rounded at each sum, is 4 p where p is above zero and 4 p is finite (01, Arithmetic underneath). In units of the smallest value,
-- 3 p is off its rounded sum by at most half a unit in the last place; 4 p is at that distance, or nearer, from the next sum, and in a tie it is the even one.
use mathlib.Core.Path.{◌≡◌, refl, sym, ap, ◌∙◌, subst}
use mathlib.Core.Logic.{◌⊎◌, ⊎_elim, inl, inr}
use mathlib.Core.Bool.{Bool, true, false, not}
use Prim.Native.Nat.{ℕ, zero, suc, ◌+◌, ◌-◌, ◌*◌, ◌/◌, ◌%◌, ◌^◌, ◌≤◌, ◌<◌, compare, Ordering}
use native.Mathlib.Nat.{mul-add-div_right, mul-add-mod_self_right, div-eq_of_lt, mod-eq_of_lt, mod-lt, div-add-mod', add-zero, zero-lt-suc, eq-or-lt_of_le, eq_of_mul-eq-mul_right, mul-div_cancel, mul-pos, mul_assoc, mul-le-mul_right, mul-le-mul_left, mul-lt-mul_of_pos_right, le_trans, le_of_eq, le_of_suc-le-suc, lt_of_not-le, not-le_of_lt, lt_of_lt_of_le}
use native.Mathlib.Omega.{arith}
use lib.Dec.{T, leb, is_le, compare_is_eq, leb→le, nleb→lt, eqb→eq, eqb, eqb_refl}
use lib.Arith.{lt_of_le-ne}
use lib.Pow.{pow-add, pow_pos, pow_mono}
use lib.Ieee.{binary64, low, size, nearest, units, round}
use lib.Ieee.Digits.{size-lt, size-le, size_reaches}
use lib.Ieee.Fits.{round_is, round-fits}
use lib.Ieee.Exact.{HasValue, units_val}
use lib.Ieee.Nearest.{closest, closest_same}
use lib.Ieee.Scale.{grid}
use native.Mathlib.Numerals.{add-one}
use Rattle.numeric.proofs.Rounding.{unique}
use Rattle.shorter_sums.proofs.Sterbenz.{unit, top, Short, rounds_to, raised}

-- ---- what `compare` says
abbrev pub Says : Ordering → ℕ → ℕ → Type 0
Says Ordering.lt a b = a < b
Says Ordering.eq a b = a ≡ b
Says Ordering.gt a b = b < a

pub says : (a b : ℕ) → Says (compare a b) a b
says a b = go (compare a b) (leb→le a b) (nleb→lt a b) (eqb→eq a b) (λ (e : a ≡ b). subst (λ (x : ℕ). T (eqb a x)) e (eqb_refl a))
  where
    go : (o : Ordering) → (T (is_le o) → a ≤ b) → (T (not (is_le o)) → b < a) → (T (compare_is_eq o) → a ≡ b) → (a ≡ b → T (compare_is_eq o)) → Says o a b
    go Ordering.lt h k e n = lt_of_le-ne (h tt) n
    go Ordering.eq h k e n = e tt
    go Ordering.gt h k e n = k tt

-- ---- the whole number nearest to x / c, where x is d more or d less than h × c: it is h where d is less than a half of c, or a half and h is even
abbrev pub Half : ℕ → ℕ → ℕ → Type 0
Half c h d = (d * 2 < c) ⊎ ((d * 2 ≡ c) × (h % 2 ≡ 0))

above_nearest : (c h d : ℕ) (o : Ordering) → Says o (d * 2) c → Half c h d → nearest h o ≡ h
above_nearest c h d Ordering.lt s w = refl
above_nearest c h d Ordering.eq s (inl l) = absurd (omega arith)
above_nearest c h d Ordering.eq s (inr e) = rw e.1 (add-zero h)
above_nearest c h d Ordering.gt s (inl l) = absurd (omega arith)
above_nearest c h d Ordering.gt s (inr e) = let q = e.0 in absurd (omega arith)

half_less : (c h d : ℕ) → 0 < c → Half c h d → d < c
half_less c h d C (inl l) = omega arith
half_less c h d C (inr e) = let q = e.0 in omega arith

pub closest_above : (x c h d : ℕ) → 0 < c → x ≡ h * c + d → Half c h d → closest x c ≡ h
closest_above x c h d C e w =
    let l = half_less c h d C w in
    let q : (h * c + d) / c ≡ h = mul-add-div_right C h d ∙ rw (div-eq_of_lt l) (add-zero h) in
    let r : (h * c + d) % c ≡ d = mul-add-mod_self_right h c d ∙ mod-eq_of_lt l in
    rw (e, q, r) (above_nearest c h d (compare (d * 2) c) (says (d * 2) c) w)

below_nearest : (c g d : ℕ) (o : Ordering) → d ≤ c → Says o ((c - d) * 2) c → Half c (suc g) d → nearest g o ≡ suc g
below_nearest c g d Ordering.lt m s (inl l) = absurd (omega arith)
below_nearest c g d Ordering.lt m s (inr e) = let q = e.0 in absurd (omega arith)
below_nearest c g d Ordering.eq m s (inl l) = absurd (omega arith)
below_nearest c g d Ordering.eq m s (inr e) = let q = e.1 in omega arith
below_nearest c g d Ordering.gt m s w = refl

closest_below : (x c g d : ℕ) → 0 < c → 0 < d → x + d ≡ suc g * c → Half c (suc g) d → closest x c ≡ suc g
closest_below x c g d C D e w =
    let l = half_less c (suc g) d C w in
    let y : c - d < c = omega arith in
    let f : x ≡ g * c + (c - d) = omega arith in
    let q : (g * c + (c - d)) / c ≡ g = mul-add-div_right C g (c - d) ∙ rw (div-eq_of_lt y) (add-zero g) in
    let r : (g * c + (c - d)) % c ≡ c - d = mul-add-mod_self_right g c (c - d) ∙ mod-eq_of_lt y in
    rw (f, q, r) (below_nearest c g d (compare ((c - d) * 2) c) (omega arith) (says ((c - d) * 2) c) w)

-- x is d more or d less than y, at most a half of K + K; where it is a half, h is even
abbrev Off : ℕ → ℕ → ℕ → ℕ → Type 0
Off x y K h = (d : ℕ) × (d ≤ K) × ((d < K) ⊎ (h % 2 ≡ 0)) × ((x ≡ y + d) ⊎ (x + d ≡ y))

even_or_odd : (w : ℕ) → (w % 2 ≡ 0) ⊎ (w % 2 ≡ 1)
even_or_odd w = go (w % 2) (mod-lt w (zero-lt-suc 1))
  where
    go : (r : ℕ) → r < 2 → (r ≡ 0) ⊎ (r ≡ 1)
    go zero l = inl refl
    go (suc zero) l = inr refl
    go (suc (suc r)) l = absurd (omega arith)

odd_even : (x y : ℕ) → x * 2 + 1 ≡ y * 2 → ⊥
odd_even x y e = omega arith

odd_not : (h a w : ℕ) → h ≡ a * 2 + 1 → h * 6 ≡ w * 8 + 4 → ⊥
odd_not h a w p q =
    let e : a * 3 * 2 + 1 ≡ w * 2 * 2 = omega arith in
    odd_even (a * 3) (w * 2) e

-- 3 n rounded to a multiple of K + K, and n more, is off 4 n by what 3 n was off; h counts K + K in 4 n
module _ (n K h : ℕ) (P : 0 < K) (e : n + n + (n + n) ≡ h * (K + K)) where
  off_at : (w r : ℕ) (o : Ordering) → n + n + n ≡ w * (K + K) + r → r < K + K → Says o (r * 2) (K + K) → Off (nearest w o * (K + K) + n) (n + n + (n + n)) K h
  off_at w r Ordering.lt a l s = (r, omega arith, inl (omega arith), inr (omega arith))
  off_at w r Ordering.gt a l s = (K + K - r, omega arith, inl (omega arith), inl (omega arith))
  off_at w r Ordering.eq a l s =
      let half : r ≡ K = omega arith in
      let sum : n + n + n ≡ w * (K + K) + K = a ∙ ap (λ (z : ℕ). w * (K + K) + z) half in
      let six : h * 6 * K ≡ (w * 8 + 4) * K = omega arith in
      let three : h * 6 ≡ w * 8 + 4 = eq_of_mul-eq-mul_right K P (h * 6) (w * 8 + 4) six in
      let even : h % 2 ≡ 0 = ⊎_elim (λ q. q) (λ q. absurd (odd_not h (h / 2) w (sym (div-add-mod' h 2) ∙ ap (λ (z : ℕ). h / 2 * 2 + z) q) three)) (even_or_odd h) in
      ⊎_elim (λ q. (K, omega arith, inr even, inr (rw q (omega arith)))) (λ q. (K, omega arith, inr even, inl (rw q (omega arith)))) (even_or_odd w)

  third_off : Off (closest (n + n + n) (K + K) * (K + K) + n) (n + n + (n + n)) K h
  third_off =
      let c = K + K in
      let C : 0 < c = omega arith in
      off_at ((n + n + n) / c) ((n + n + n) % c) (compare ((n + n + n) % c * 2) c) (sym (div-add-mod' (n + n + n) c)) (mod-lt (n + n + n) C) (says ((n + n + n) % c * 2) c)

off_least : (x y K h : ℕ) → Off x y K h → (b : ℕ) → b + K ≤ y → b ≤ x
off_least x y K h (d, l, w, inl a) b g = omega arith
off_least x y K h (d, l, w, inr a) b g = omega arith

off_most : (x y K h : ℕ) → Off x y K h → x ≤ y + K
off_most x y K h (d, l, w, inl a) = omega arith
off_most x y K h (d, l, w, inr a) = omega arith

-- so the whole number nearest to it, over c, is h
off_nearest : (x y K c h : ℕ) → 0 < c → 0 < y → y ≡ h * c → Off x y K h → ((d : ℕ) → d ≤ K → (d < K) ⊎ (h % 2 ≡ 0) → Half c h d) → closest x c ≡ h
off_nearest x y K c h C Y e (d, l, w, inl a) half = closest_above x c h d C (a ∙ ap (λ (z : ℕ). z + d) e) (half d l w)
off_nearest x y K c zero C Y e (d, l, w, inr b) half = absurd (omega arith)
off_nearest x y K c (suc g) C Y e (zero, l, w, inr b) half = closest_above x c (suc g) 0 C (omega arith) (half 0 l w)
off_nearest x y K c (suc g) C Y e (suc d, l, w, inr b) half = closest_below x c g (suc d) C (zero-lt-suc d) (b ∙ e) (half (suc d) l w)

half_of_two : (K h d : ℕ) → d ≤ K → (d < K) ⊎ (h % 2 ≡ 0) → Half (K + K) h d
half_of_two K h d l (inl w) = inl (omega arith)
half_of_two K h d l (inr e) = ⊎_elim (λ q. inr (omega arith, e)) (λ q. inl (omega arith)) (eq-or-lt_of_le l)

-- less than a half of twice as much
widen : (x y K h i : ℕ) → 0 < K → Off x y K h → Off x y (K + K) i
widen x y K h i P (d, l, w, s) = (d, omega arith, inl (omega arith), s)

quarter : (K h d : ℕ) → d ≤ K + K → (d < K + K) ⊎ (h % 2 ≡ 0) → Half (K * 4) h d
quarter K h d l w = ⊎_elim (λ q. inr_half q w) (λ q. inl (omega arith)) (eq-or-lt_of_le l)
  where
    inr_half : d ≡ K + K → (d < K + K) ⊎ (h % 2 ≡ 0) → Half (K * 4) h d
    inr_half q (inl g) = absurd (omega arith)
    inr_half q (inr e) = inr (omega arith, e)

-- ---- the same of doubles, n units each
abbrev pub C : ℕ
C = 2 ^ 53

abbrev u : ℕ
u = unit binary64

-- x units rounded, where k digits of x are dropped
round_as : (x k q : ℕ) → size x - 53 ≡ k → closest x (2 ^ k) ≡ q → round binary64 false x u ≡ units binary64 false q k
round_as x k q s c =
    let U = pow_pos (low binary64) in
    let whole : x * u / u ≡ x = mul-div_cancel x U in
    let same : closest (x * u) (u * 2 ^ k) ≡ closest x (2 ^ k) = closest_same (x * u) (u * 2 ^ k) x (2 ^ k) (mul-pos U (pow_pos k)) (pow_pos k) (mul_assoc x u (2 ^ k)) in
    round_is binary64 false x u ∙ rw (whole, s, same, c) refl

size_gt : (x j : ℕ) → 2 ^ j ≤ x → j < size x
size_gt x j h = lt_of_not-le (λ (g : size x ≤ j). not-le_of_lt (lt_of_lt_of_le (size-lt x) (pow_mono g)) h)

rounded_as : (x y k q : ℕ) → size x - 53 ≡ k → closest x (2 ^ k) ≡ q → y ≡ q * 2 ^ k → Short (2 ^ 53) y → y < top binary64 → round binary64 false x u ≡ round binary64 false y u
rounded_as x y k q s c e short l =
    unique binary64 (round binary64 false x u) (round binary64 false y u) false y u (pow_pos (low binary64)) (round-fits binary64 false x u) (round-fits binary64 false y u)
    (rw (round_as x k q s c) (subst (λ (z : ℕ). HasValue (units binary64 false q k) false z u) (sym e) (units_val binary64 false q k (subst (λ (z : ℕ). z < top binary64) e l)))) (rounds_to binary64 y short l)

pub sizes : (z k : ℕ) → z - 53 ≡ k + 1 → 53 + k + 1 ≡ z
sizes z k h = omega arith

module _ (n q j : ℕ) (e : n ≡ q * 2 ^ j) (small : q < C) (N : 0 < n) where
  abbrev four : ℕ
  four = n + n + (n + n)

  four_is : four ≡ q * 2 ^ (j + 2)
  four_is =
      let t : 2 ^ (j + 2) ≡ 2 ^ j * 4 = pow-add 2 j 2 in
      rw (t, e) (omega arith)

  -- digits are dropped of 3 n: K is a half of the last place that is kept
  module _ (k : ℕ) (s : size (n + n + n) - 53 ≡ k + 1) where
    abbrev K : ℕ
    K = 2 ^ k

    K_pos : 0 < K
    K_pos = pow_pos k

    place : 2 ^ (k + 1) ≡ K + K
    place = pow-add 2 k 1 ∙ omega arith

    low_end : C * K ≤ n + n + n
    low_end = rw (← pow-add 2 53 k) (size_reaches (n + n + n) (53 + k) (omega arith))

    high_end : n + n + n < C * K + C * K
    high_end =
        let l : n + n + n < 2 ^ (53 + k + 1) = rw (sizes (size (n + n + n)) k s) (size-lt (n + n + n)) in
        let p : 2 ^ (53 + k + 1) ≡ C * K * 2 = pow-add 2 (53 + k) 1 ∙ ap (λ (z : ℕ). z * 2) (pow-add 2 53 k) in
        omega arith

    -- so n has no more than two digits below that place
    deep : k ≤ j + 1
    deep = le_of_suc-le-suc (lt_of_not-le (λ (g : suc (j + 1) ≤ k).
        let t : 2 ^ (j + 2) ≡ 2 ^ j * 4 = pow-add 2 j 2 in
        let g2 : j + 2 ≤ k = omega arith in
        let l : 2 ^ (j + 2) ≤ K = pow_mono g2 in
        let l4 : 2 ^ j * 4 ≤ K = le_trans (le_of_eq (sym t)) l in
        let m : C * (2 ^ j * 4) ≤ C * K = mul-le-mul_left C l4 in
        let o : q * 2 ^ j < C * 2 ^ j = mul-lt-mul_of_pos_right small (pow_pos j) in
        let a = low_end in
        absurd (omega arith)))

    abbrev h : ℕ
    h = q * 2 ^ (j + 2 - (k + 1))

    four_places : four ≡ h * (K + K)
    four_places = four_is ∙ raised q (k + 1) (j + 2) (omega (arith, deep)) ∙ ap (λ (z : ℕ). h * z) place

    abbrev m : ℕ
    m = closest (n + n + n) (2 ^ (k + 1)) * 2 ^ (k + 1)

    off : Off (m + n) four K h
    off = rw place (third_off n K h K_pos four_places)

    wide : K ≤ n
    wide =
        let a = low_end in
        let b : 3 * K ≤ C * K = mul-le-mul_right K (omega arith) in
        omega arith

    -- the sum has as many digits as 3 n
    same_digits : four < top binary64 → m + n < C * (K + K) → round binary64 false (m + n) u ≡ round binary64 false four u
    same_digits t g =
        let a = low_end in
        let b = wide in
        let low_sum : C * K ≤ m + n = off_least (m + n) four K h off (C * K) (omega arith) in
        let x : 53 + k < size (m + n) = size_gt (m + n) (53 + k) (le_trans (le_of_eq (pow-add 2 53 k)) low_sum) in
        let y : size (m + n) ≤ 53 + (k + 1) = size-le (m + n) (53 + (k + 1)) (subst (λ (i : ℕ). m + n < i) (sym (pow-add 2 53 (k + 1) ∙ ap (λ (i : ℕ). C * i) place)) g) in
        let z : size (m + n) - 53 ≡ k + 1 = omega arith in
        let c : closest (m + n) (2 ^ (k + 1)) ≡ h = subst (λ (i : ℕ). closest (m + n) i ≡ h) (sym place) (off_nearest (m + n) four K (K + K) h (omega (arith, K_pos)) (omega arith) four_places off (half_of_two K h)) in
        rounded_as (m + n) four (k + 1) h z c (four_places ∙ ap (λ (i : ℕ). h * i) (sym place)) (q, j + 2, four_is, small) t

    -- or it has one more: then 4 n has no digit below the next place
    next_place : 2 ^ (k + 2) ≡ K * 4
    next_place = pow-add 2 k 2

    shallow : C * (K + K) ≤ m + n → k + 2 ≤ j + 2
    shallow g = le_of_suc-le-suc (lt_of_not-le (λ (l : suc (j + 2) ≤ k + 2).
        let d = deep in
        let i : j + 2 - (k + 1) ≡ 0 = omega arith in
        let f : four ≡ q * 1 * (K + K) = four_places ∙ ap (λ (z : ℕ). q * 2 ^ z * (K + K)) i in
        let b : suc q * (K + K) ≤ C * (K + K) = mul-le-mul_right (K + K) small in
        let o = off_most (m + n) four K h off in
        let p = K_pos in
        absurd (omega arith)))

    more_digits : four < top binary64 → C * (K + K) ≤ m + n → round binary64 false (m + n) u ≡ round binary64 false four u
    more_digits t g =
        let d : k + 2 ≤ j + 2 = shallow g in
        let p = K_pos in
        let a = high_end in
        let w = wide in
        let o = off_most (m + n) four K h off in
        let i = q * 2 ^ (j + 2 - (k + 2)) in
        let e4 : four ≡ i * (K * 4) = four_is ∙ raised q (k + 2) (j + 2) d ∙ ap (λ (z : ℕ). i * z) next_place in
        let one : 3 * K ≤ C * K = mul-le-mul_right K (omega arith) in
        let under : m + n < C * (K * 4) = omega arith in
        let x : 53 + (k + 1) < size (m + n) = size_gt (m + n) (53 + (k + 1)) (le_trans (le_of_eq (pow-add 2 53 (k + 1) ∙ ap (λ (z : ℕ). C * z) place)) g) in
        let y : size (m + n) ≤ 53 + (k + 2) = size-le (m + n) (53 + (k + 2)) (subst (λ (i : ℕ). m + n < i) (sym (pow-add 2 53 (k + 2) ∙ ap (λ (i : ℕ). C * i) next_place)) under) in
        let z : size (m + n) - 53 ≡ k + 2 = omega arith in
        let f : Off (m + n) four (K + K) i = widen (m + n) four K h i p off in
        let c : closest (m + n) (2 ^ (k + 2)) ≡ i = subst (λ (r : ℕ). closest (m + n) r ≡ i) (sym next_place) (off_nearest (m + n) four (K + K) (K * 4) i (omega arith) (omega arith) e4 f (quarter K i)) in
        rounded_as (m + n) four (k + 2) i z c (e4 ∙ ap (λ (r : ℕ). i * r) (sym next_place)) (q, j + 2, four_is, small) t

-- ---- the law: `third` is 3 n units rounded
abbrev pub third : ℕ → ℕ
third n = grid binary64 (n + n + n) u

pub grid_as : (x k : ℕ) → size x - 53 ≡ k → grid binary64 x u ≡ closest x (2 ^ k) * 2 ^ k
grid_as x k s =
    let U = pow_pos (low binary64) in
    let whole : x * u / u ≡ x = mul-div_cancel x U in
    let same : closest (x * u) (u * 2 ^ k) ≡ closest x (2 ^ k) = closest_same (x * u) (u * 2 ^ k) x (2 ^ k) (mul-pos U (pow_pos k)) (pow_pos k) (mul_assoc x u (2 ^ k)) in
    rw (whole, s, same) refl

pub all_kept : (x : ℕ) → closest x (2 ^ 0) * 2 ^ 0 ≡ x
all_kept x =
    let c : closest x 1 ≡ x = closest_above x 1 x 0 (zero-lt-suc 0) (omega arith) (inl (omega arith)) in
    ap (λ (i : ℕ). i * 1) c ∙ omega arith

pub least_or_less : (a b : ℕ) → (a ≤ b) ⊎ (b < a)
least_or_less a b = go (leb a b) (leb→le a b) (nleb→lt a b)
  where
    go : (t : Bool) → (T t → a ≤ b) → (T (not t) → b < a) → (a ≤ b) ⊎ (b < a)
    go true h k = inl (h tt)
    go false h k = inr (k tt)

pub fourfold : (n : ℕ) → Short C n → 0 < n → n + n + (n + n) < top binary64 → round binary64 false (third n + n) u ≡ round binary64 false (n + n + (n + n)) u
fourfold n (q, j, e, small) N t = go (size (n + n + n) - 53) refl
  where
    go : (k : ℕ) → size (n + n + n) - 53 ≡ k → round binary64 false (third n + n) u ≡ round binary64 false (n + n + (n + n)) u
    go zero s = ap (λ (i : ℕ). round binary64 false i u) (ap (λ (i : ℕ). i + n) (grid_as (n + n + n) 0 s ∙ all_kept (n + n + n)) ∙ omega arith)
    go (suc k) s =
        let s1 : size (n + n + n) - 53 ≡ k + 1 = s ∙ sym (add-one k) in
        ap (λ (i : ℕ). round binary64 false (i + n) u) (grid_as (n + n + n) (k + 1) s1)
        ∙ ⊎_elim (λ g. more_digits n q j e small N k s1 t g) (λ g. same_digits n q j e small N k s1 t g) (least_or_less (C * (K n q j e small N k s1 + K n q j e small N k s1)) (m n q j e small N k s1 + n))
