-- Proves Sterbenz's lemma (01, Arithmetic underneath): where x is at least a and at most twice a, both above zero, x - a is exact. So where 0 < b ≤ a and x
-- is their rounded sum, x - (x - a) is a.
use mathlib.Core.Path.{◌≡◌, refl, sym, ap, ◌∙◌, subst}
use mathlib.Core.Logic.{⊎_elim}
use mathlib.Core.Bool.{Bool, true, false, not, true≢false}
use Prim.Native.Nat.{ℕ, zero, suc, ◌+◌, ◌-◌, ◌*◌, ◌^◌, ◌≤◌, ◌<◌}
use native.Mathlib.Nat.{mul_comm, mul_assoc, mul_right_comm, mul-pos, add-mul, mul-sub, mul-le-mul_right, le_of_mul-le-mul_right, le_trans, le_of_eq, lt_of_le_of_lt, lt_of_lt_of_le, lt_of_mul-lt-mul_right, mul-lt-mul_of_pos_right, sub-le, zero-lt-suc}
use native.Mathlib.Omega.{arith}
use borrow.Author.Tests.{lt-ltb, le-ltb}
use lib.Dec.{T, ltb, ltb→lt, nltb→le}
use lib.IntN.{ℤ}
use lib.Pow.{pow-add, pow_pos}
use lib.Ieee.{Float, nan, inf, fin, Format, prec, emax, low, up, down, round, sum, add, sub, neg, fits, le}
use lib.Ieee.Digits.{back}
use lib.Ieee.Fits.{down_pos, add-fits, sub-fits, round-fits}
use lib.Ieee.Exact.{HasValue, round_exact}
use lib.Ieee.Order.{round_mono}
use lib.Ieee.Positive.{positive, positive_of_value, values_of_le, above, above_of_le}
use lib.Ieee.Scale.{round_same, finite}
use Rattle.numeric.proofs.Rounding.{unique, fits_bounds, in_units, in_range}
use Rattle.numeric.proofs.Zeros.{in_order}

pub minus_times : (m n k : ℕ) → (m - n) * k ≡ m * k - n * k
minus_times m n k = mul_comm (m - n) k ∙ mul-sub k m n ∙ ap (λ (x : ℕ). x - k * n) (mul_comm k m) ∙ ap (λ (x : ℕ). m * k - x) (mul_comm k n)

-- ---- d is a number below p times a power of two: in units of a format's smallest value such a number is one of the format's
abbrev pub Short : ℕ → ℕ → Type 0
Short p d = (q : ℕ) × (j : ℕ) × (d ≡ q * 2 ^ j) × (q < p)

pub raised : (m i j : ℕ) → i ≤ j → m * 2 ^ j ≡ m * 2 ^ (j - i) * 2 ^ i
raised m i j h = ap (λ (x : ℕ). m * 2 ^ x) (sym (back j i h)) ∙ ap (λ (x : ℕ). m * x) (pow-add 2 (j - i) i) ∙ sym (mul_assoc m (2 ^ (j - i)) (2 ^ i))

-- the difference of two such numbers, where it is at most the lesser
short_gap : (p x a : ℕ) → Short p x → Short p a → a ≤ x → x ≤ a + a → Short p (x - a)
short_gap p x a (m, i, e, s) (n, j, g, t) h k =
    ⊎_elim
    (λ l.
    let w : x - a ≡ (m - n * 2 ^ (j - i)) * 2 ^ i = ap (λ (z : ℕ). z - a) e ∙ ap (λ (z : ℕ). m * 2 ^ i - z) (g ∙ raised n i j l) ∙ sym (minus_times m (n * 2 ^ (j - i)) (2 ^ i)) in
    (m - n * 2 ^ (j - i), i, w, lt_of_le_of_lt (sub-le m (n * 2 ^ (j - i))) s))
    (λ l.
    let w : x - a ≡ (m * 2 ^ (i - j) - n) * 2 ^ j = ap (λ (z : ℕ). z - a) (e ∙ raised m j i l) ∙ ap (λ (z : ℕ). m * 2 ^ (i - j) * 2 ^ j - z) g ∙ sym (minus_times (m * 2 ^ (i - j)) n (2 ^ j)) in
    let least : x - a ≤ a = omega arith in
    let few : m * 2 ^ (i - j) - n ≤ n = le_of_mul-le-mul_right (le_trans (le_of_eq (sym w)) (le_trans least (le_of_eq g))) (pow_pos j) in
    (m * 2 ^ (i - j) - n, j, w, lt_of_le_of_lt few t))
    (in_order i j)

-- ---- a number above zero that fits, in units of the smallest value
module _ (f : Format) where
  abbrev pub unit : ℕ
  unit = 2 ^ low f

  abbrev pub top : ℕ
  top = 2 ^ (low f + suc (emax f))

  pub record Units (x : Float) (n : ℕ) : Type 0 where
    pub value : HasValue x false n unit
    pub short : Short (2 ^ prec f) n
    pub under : n < top

  pub units_of : (m : ℕ) (e : ℤ) → T (fits f (fin false (suc m) e)) → (n : ℕ) × (0 < n) × Units (fin false (suc m) e) n
  units_of m e h =
      let bounds = fits_bounds f false m e h in
      let w = in_units (low f) e bounds.1 in (
        suc m * 2 ^ w.0,
        mul-pos (zero-lt-suc m) (pow_pos w.0),
        record {
          value = (refl, w.1 (suc m));
          short = (suc m, w.0, refl, bounds.0);
          under = in_range (suc m) (up e) (down e) (low f) (suc (emax f)) w.0 (down_pos e) bounds.2 (w.1 (suc m));
        },
      )

  -- a number of units that a float may have is not rounded
  pub rounds_to : (n : ℕ) → Short (2 ^ prec f) n → n < top → HasValue (round f false n unit) false n unit
  rounds_to n (q, j, e, s) u = round_exact f false n unit q j (pow_pos (low f)) s (subst (λ (z : ℕ). z < top) e u) (ap (λ (z : ℕ). z * unit) e)

  -- x - y, worked in units
  module _ (x y c d m n : ℕ) (C : 0 < c) (D : 0 < d) (p : x * unit ≡ m * c) (q : y * unit ≡ n * d) where
    left : x * d * unit ≡ m * (c * d)
    left = mul_right_comm x d unit ∙ ap (λ (z : ℕ). z * d) p ∙ mul_assoc m c d

    right : y * c * unit ≡ n * (c * d)
    right = mul_right_comm y c unit ∙ ap (λ (z : ℕ). z * c) q ∙ mul_assoc n d c ∙ ap (λ (z : ℕ). n * z) (mul_comm d c)

    least : n ≤ m → y * c ≤ x * d
    least h = le_of_mul-le-mul_right (le_trans (le_of_eq right) (le_trans (mul-le-mul_right (c * d) h) (le_of_eq (sym left)))) (pow_pos (low f))

    less : m < n → x * d < y * c
    less h = lt_of_mul-lt-mul_right unit (lt_of_le_of_lt (le_of_eq left) (lt_of_lt_of_le (mul-lt-mul_of_pos_right h (mul-pos C D)) (le_of_eq (sym right))))

    fall : (y * c - x * d) * unit ≡ (n - m) * (c * d)
    fall = minus_times (y * c) (x * d) unit ∙ ap (λ (z : ℕ). z - x * d * unit) right ∙ ap (λ (z : ℕ). n * (c * d) - z) left ∙ sym (minus_times n m (c * d))

    gap : (x * d - y * c) * unit ≡ (m - n) * (c * d)
    gap = minus_times (x * d) (y * c) unit ∙ ap (λ (z : ℕ). z - y * c * unit) left ∙ ap (λ (z : ℕ). m * (c * d) - z) right ∙ sym (minus_times m n (c * d))

    both : (x * d + y * c) * unit ≡ (m + n) * (c * d)
    both = add-mul (x * d) (y * c) unit ∙ ap (λ (z : ℕ). z + y * c * unit) left ∙ ap (λ (z : ℕ). m * (c * d) + z) right ∙ sym (add-mul m n (c * d))

  pub difference : (x y : Float) (m n : ℕ) → HasValue x false m unit → HasValue y false n unit → n ≤ m → sub f x y ≡ round f false (m - n) unit
  unfolding sub add neg sum
  difference nan y m n p q h = absurd p
  difference (inf s) y m n p q h = absurd p
  difference (fin true i e) y m n p q h = absurd (true≢false p.0)
  difference (fin false i e) nan m n p q h = absurd q
  difference (fin false i e) (inf t) m n p q h = absurd q
  difference (fin false i e) (fin true k g) m n p q h = absurd (true≢false q.0)
  difference (fin false i e) (fin false k g) m n p q h =
      rw (le-ltb (i * up e * down g) (k * up g * down e) (least (i * up e) (k * up g) (down e) (down g) m n (down_pos e) (down_pos g) p.1 q.1 h))
      (round_same f false (i * up e * down g - k * up g * down e) (down e * down g) (m - n) unit (mul-pos (down_pos e) (down_pos g)) (pow_pos (low f)) (gap (i * up e) (k * up g) (down e) (down g) m n (down_pos e) (down_pos g) p.1 q.1))

  pub below_difference : (x y : Float) (m n : ℕ) → HasValue x false m unit → HasValue y false n unit → m < n → sub f x y ≡ round f true (n - m) unit
  unfolding sub add neg sum
  below_difference nan y m n p q h = absurd p
  below_difference (inf s) y m n p q h = absurd p
  below_difference (fin true i e) y m n p q h = absurd (true≢false p.0)
  below_difference (fin false i e) nan m n p q h = absurd q
  below_difference (fin false i e) (inf t) m n p q h = absurd q
  below_difference (fin false i e) (fin true k g) m n p q h = absurd (true≢false q.0)
  below_difference (fin false i e) (fin false k g) m n p q h =
      rw (lt-ltb (i * up e * down g) (k * up g * down e) (less (i * up e) (k * up g) (down e) (down g) m n (down_pos e) (down_pos g) p.1 q.1 h))
      (round_same f true (k * up g * down e - i * up e * down g) (down e * down g) (n - m) unit (mul-pos (down_pos e) (down_pos g)) (pow_pos (low f)) (fall (i * up e) (k * up g) (down e) (down g) m n (down_pos e) (down_pos g) p.1 q.1))

  -- Sterbenz's lemma, and what it gives: x - (x - a) is a
  pub exact_gap : (x a : Float) (m n : ℕ) → Units x m → Units a n → n ≤ m → m ≤ n + n → HasValue (sub f x a) false (m - n) unit
  exact_gap x a m n p q h k = rw (difference x a m n p.value q.value h) (rounds_to (m - n) (short_gap (2 ^ prec f) m n p.short q.short h k) (lt_of_le_of_lt (sub-le m n) p.under))

  back_again : (x a : Float) (m n : ℕ) → Units x m → Units a n → T (fits f a) → n ≤ m → m ≤ n + n → sub f x (sub f x a) ≡ a
  back_again x a m n p q r h k =
      let same : m - (m - n) ≡ n = omega arith in
      let w : sub f x (sub f x a) ≡ round f false n unit = difference x (sub f x a) m (m - n) p.value (exact_gap x a m n p q h k) (sub-le m n) ∙ ap (λ (i : ℕ). round f false i unit) same in
      unique f (sub f x (sub f x a)) a false n unit (pow_pos (low f)) (sub-fits f x (sub f x a)) r (rw w (rounds_to n q.short q.under)) q.value

  -- ---- the rounded sum of a and b, where 0 < b ≤ a, is at least a and at most twice a
  pub total : (x y : Float) (m n : ℕ) → HasValue x false m unit → HasValue y false n unit → add f x y ≡ round f false (m + n) unit
  unfolding add sum
  total nan y m n p q = absurd p
  total (inf s) y m n p q = absurd p
  total (fin true i e) y m n p q = absurd (true≢false p.0)
  total (fin false i e) nan m n p q = absurd q
  total (fin false i e) (inf t) m n p q = absurd q
  total (fin false i e) (fin true k g) m n p q = absurd (true≢false q.0)
  total (fin false i e) (fin false k g) m n p q =
      round_same f false (i * up e * down g + k * up g * down e) (down e * down g) (m + n) unit (mul-pos (down_pos e) (down_pos g)) (pow_pos (low f)) (both (i * up e) (k * up g) (down e) (down g) m n (down_pos e) (down_pos g) p.1 q.1)

  pub twice_short : (n : ℕ) → Short (2 ^ prec f) n → Short (2 ^ prec f) (n + n)
  twice_short n (q, j, e, s) =
      let t : 2 ^ (j + 1) ≡ 2 ^ j * 2 = pow-add 2 j 1 in
      (q, j + 1, rw (t, e) (omega arith), s)

  pub ordered : (x y : Float) (m n : ℕ) → T (positive x) → T (positive y) → HasValue x false m unit → HasValue y false n unit → T (le x y) → m ≤ n
  ordered x y m n p q v w h = le_of_mul-le-mul_right (values_of_le x y m unit n unit p q v w h) (pow_pos (low f))

  no_less : (a x : Float) (n k : ℕ) → Units a n → T (fits f a) → x ≡ round f false (n + k) unit → T (le a x)
  no_less a x n k p fa is =
      let own : round f false n unit ≡ a = unique f (round f false n unit) a false n unit (pow_pos (low f)) (round-fits f false n unit) fa (rounds_to n p.short p.under) p.value in
      rw (is, ← own) (round_mono f n unit (n + k) unit (pow_pos (low f)) (pow_pos (low f)) (mul-le-mul_right unit (omega arith)))

  no_more : (a x : Float) (n k m : ℕ) → Units a n → Units x m → T (positive x) → x ≡ round f false (n + k) unit → 0 < n → k ≤ n → m ≤ n + n
  no_more a x n k m p r X is N h = go (ltb (n + n) top) (ltb→lt (n + n) top) (nltb→le (n + n) top)
    where
      go : (t : Bool) → (T t → n + n < top) → (T (not t) → top ≤ n + n) → m ≤ n + n
      go true under over =
          let v = rounds_to (n + n) (twice_short n p.short) (under tt) in
          ordered x (round f false (n + n) unit) m (n + n) X (positive_of_value (round f false (n + n) unit) (n + n) unit v (omega arith)) r.value v
          (rw is (round_mono f (n + k) unit (n + n) unit (pow_pos (low f)) (pow_pos (low f)) (mul-le-mul_right unit (omega arith))))
      go false under over = let u = r.under in let o = over tt in omega arith

  -- the law
  pub above_finite : (x : Float) → T (above x) → T (finite x) → T (positive x)
  above_finite nan h g = absurd h
  above_finite (inf s) h g = absurd g
  above_finite (fin true m e) h g = absurd h
  above_finite (fin false m e) h g = h

  pub units_at : (x : Float) → T (positive x) → T (fits f x) → (n : ℕ) × (0 < n) × Units x n
  units_at nan p h = absurd p
  units_at (inf s) p h = absurd p
  units_at (fin true m e) p h = absurd p
  units_at (fin false zero e) p h = absurd p
  units_at (fin false (suc m) e) p h = units_of m e h

  -- what a sum of a and b comes to, in units
  pub record Sum (a b : Float) (n m : ℕ) : Type 0 where
    pub units : Units (add f a b) m
    pub more : T (positive (add f a b))
    pub least : n ≤ m
    pub most : m ≤ n + n

  pub sum_units : (a b : Float) (n k : ℕ) → Units a n → 0 < n → Units b k → T (positive a) → T (fits f a) → k ≤ n → T (finite (add f a b)) → (m : ℕ) × Sum a b n m
  sum_units a b n k p N q A fa h X =
      let is = total a b n k p.value q.value in
      let less = no_less a (add f a b) n k p fa is in
      let x-positive = above_finite (add f a b) (above_of_le a (add f a b) A less) X in
      let v = units_at (add f a b) x-positive (add-fits f a b) in
      (v.0, record { units = v.2; more = x-positive; least = ordered a (add f a b) n v.0 A x-positive p.value v.2.value less; most = no_more a (add f a b) n k v.0 p v.2 x-positive is N h })

  pub sum_back : (a b : Float) → T (positive b) → T (fits f a) → T (fits f b) → T (le b a) → T (finite a) → T (finite (add f a b)) → sub f (add f a b) (sub f (add f a b) a) ≡ a
  sum_back a b B fa fb l A X =
      let a-positive = above_finite a (above_of_le b a B l) A in
      let u = units_at a a-positive fa in
      let w = units_at b B fb in
      let s = sum_units a b u.0 w.0 u.2 u.1 w.2 a-positive fa (ordered b a w.0 u.0 B a-positive w.2.value u.2.value l) X in
      back_again (add f a b) a s.0 u.0 s.1.units u.2 fa s.1.least s.1.most

  -- the sum is at least the term
  pub sum_above : (a b : Float) → T (positive b) → T (fits f a) → T (fits f b) → T (le b a) → T (finite a) → T (le b (add f a b))
  sum_above a b B fa fb l A =
      let u = units_at a (above_finite a (above_of_le b a B l) A) fa in
      let w = units_at b B fb in
      no_less b (add f a b) w.0 u.0 w.2 fb (total a b u.0 w.0 u.2.value w.2.value ∙ ap (λ (n : ℕ). round f false n unit) (omega arith))
