-- Proves that a position at least 0 and below 1 has a layer (01, Tank): it is below the number of layers, and is the whole part of the rounded product,
-- which is what the Rust's cast gives. For 1 to 64 layers, and for both zeros. And that the layer of position 1 is the top one (02, R-2), for every number of
-- layers, and for 1 to 64 the layer of the largest double below 1 too.
-- A double below 1 is at most 1 - 2^-53; rounding keeps order; and the product of that number with each count of layers is below the count, by computation.
use mathlib.Core.Bool.{Bool, true, false, not, ◌&&◌, cond, true≢false}
use mathlib.Core.Path.{◌≡◌, refl, sym, ◌∙◌, subst}
use Prim.Native.Nat.{ℕ, zero, suc, ◌+◌, ◌-◌, ◌*◌, ◌%◌, ◌^◌, ◌≤◌, ◌<◌}
use native.Mathlib.Nat.{mul-pos, div-lt_iff_lt-mul, mul-lt-mul_of_pos_right, lt_of_mul-lt-mul_right, lt_of_le_of_lt, mul_right_comm, zero-mul}
use native.Mathlib.Omega.{arith}
use lib.Dec.{T, ltb, leb, eqb, eqb→eq, ltb→lt, lt→ltb}
use lib.IntN.{ℤ, pos, negsuc}
use lib.Pow.{pow_pos}
use lib.Ieee.{Float, nan, inf, fin, Format, binary64, unlike, prec, emax, low, up, down, odd, units, round, mul, lt, le, of_int, of_bits, fits, to_unsigned}
use lib.Ieee.Fits.{up_pos, down_pos, and_l, and_r, round_is}
use lib.Ieee.Scale.{round_same}
use lib.Ieee.Positive.{num, den, positive, den_pos, own_value, cross→le, mul_at, mul_mono}
use Rattle.numeric.specs.Double.{whole, ◌⊛◌, zero_f, one_f, just_below_one}
use Rattle.numeric.specs.Holds.{holds, holds_at}
use Rattle.numeric.specs.Whole.{whole_below, layer_of}
use Rattle.numeric.proofs.WholePart.{at_most, whole_below_bound, whole_cast, whole_of_one}

-- the largest double below 1, written out: 1 - 2^-53
abbrev largest : Float
largest = fin false 9007199254740991 (negsuc 52)

-- x is a number at least +0 and below n
abbrev under : ℕ → Float → Bool
under n nan = false
under n (inf s) = false
under n (fin true m e) = false
under n (fin false m e) = ltb (m * up e) (n * down e)

-- what is computed of each count of layers
abbrev bounded : ℕ → Bool
bounded n = positive (whole n) && (le (whole n) (whole n) && under n (largest ⊛ whole n))

all_bounded : holds bounded 64 1 ≡ true
unfolding holds mul of_int round le
all_bounded = refl

abbrev cut_zero : ℕ → Bool
cut_zero n = eqb (whole_below n (fin true 0 (pos 0))) 0 && eqb (whole_below n (fin false 0 (pos 0))) 0

all_cut_zero : holds cut_zero 64 1 ≡ true
unfolding holds whole_below of_int round le
all_cut_zero = refl

abbrev same_layer : ℕ → Bool
same_layer n = eqb (layer_of just_below_one n) (layer_of one_f n)

all_same_layer : holds same_layer 64 1 ≡ true
unfolding holds layer_of whole_below mul of_int of_bits round le
all_same_layer = refl

-- a position above zero and below 1 is at most the largest double below 1
room : (a d : ℕ) → a < 9007199254740992 → a < d → a * 9007199254740992 ≤ 9007199254740991 * d
room a d h l = omega arith

second : (a b c d : Bool) → T (a && b && c && d) → T b
second true true c d t = tt
second true false c d t = absurd t
second false b c d t = absurd t

at_most_largest : (m : ℕ) (e : ℤ) → T (fits binary64 (fin false (suc m) e)) → lt (fin false (suc m) e) (fin false 1 (pos 0)) ≡ true → T (le (fin false (suc m) e) largest)
unfolding fits lt
at_most_largest m (pos k) f h =
    let b : suc m * 2 ^ k * 1 < 1 * 1 * 1 = ltb→lt _ _ (subst T (sym h) tt) in
    let p : 0 < suc m * 2 ^ k = mul-pos (omega arith) (pow_pos k) in
    absurd (omega arith)
at_most_largest m (negsuc k) f h =
    let small : suc m < 9007199254740992 = ltb→lt (suc m) 9007199254740992 (second (eqb (suc m % 2) 1) (ltb (suc m) (2 ^ 53)) (leb (2 ^ suc k) (2 ^ 1074)) (ltb (suc m * 1) (2 ^ 1024 * 2 ^ suc k)) f) in
    let b : suc m * 1 * 1 < 1 * 1 * 2 ^ suc k = ltb→lt _ _ (subst T (sym h) tt) in
    cross→le (fin false (suc m) (negsuc k)) largest (lt→ltb 0 (suc m) (omega arith)) tt (room (suc m * 1) (2 ^ suc k) (omega arith) (omega arith))

-- `just_below_one` is below 1, and no double above zero is between the two
pub just_below : lt just_below_one one_f ≡ true
unfolding lt of_bits
just_below = refl

pub nothing_between : (x : Float) → T (fits binary64 x) → T (positive x) → lt x one_f ≡ true → T (le x just_below_one)
unfolding of_bits
nothing_between nan f p h = absurd p
nothing_between (inf s) f p h = absurd p
nothing_between (fin true m e) f p h = absurd p
nothing_between (fin false zero e) f p h = absurd p
nothing_between (fin false (suc m) e) f p h = at_most_largest m e f h

-- a rounded number with the sign of plus is no number below zero
abbrev plus : Float → Bool
plus nan = false
plus (inf s) = not s
plus (fin s m e) = not s

plus_odd : (d q k l : ℕ) → T (plus (odd d false q k l))
unfolding odd
plus_odd d zero k l = tt
plus_odd d (suc q) k l = tt

plus_cond : (b : Bool) (x : Float) → T (plus x) → T (plus (cond b x (inf false)))
plus_cond true x p = p
plus_cond false x p = tt

plus_units : (f : Format) (q k : ℕ) → T (plus (units f false q k))
unfolding units
plus_units f q k = plus_cond (ltb (q * 2 ^ k) (2 ^ (low f + suc (emax f)))) (odd (suc (prec f)) false q k (low f)) (plus_odd (suc (prec f)) q k (low f))

plus_mul : (x y : Float) → T (positive x) → T (positive y) → T (plus (x ⊛ y))
plus_mul x y p q = subst (λ (z : Float). T (plus z)) (sym (mul_at binary64 x y (num x) (den x) (num y) (den y) p q (den_pos x) (den_pos y) (own_value x p) (own_value y q) ∙ round_is binary64 false (num x * num y) (den x * den y))) (plus_units binary64 _ _)

-- what is at most a number under n is under n
under_le : (n : ℕ) (x y : Float) → T (plus x) → T (le x y) → T (under n y) → T (under n x)
unfolding le
under_le n nan y p l u = absurd p
under_le n (inf true) y p l u = absurd p
under_le n (inf false) nan p l u = absurd l
under_le n (inf false) (inf s) p l u = absurd u
under_le n (inf false) (fin s m e) p l u = absurd l
under_le n (fin true m e) y p l u = absurd p
under_le n (fin false m e) nan p l u = absurd l
under_le n (fin false m e) (inf s) p l u = absurd u
under_le n (fin false m e) (fin true k d) p l u = absurd u
under_le n (fin false m e) (fin false k d) p l u =
    let c = at_most (m * up e * down d) (k * up d * down e) (ltb (m * up e * down d) (k * up d * down e)) (eqb (m * up e * down d) (k * up d * down e)) refl refl l in
    let v : k * up d * down e < n * down d * down e = mul-lt-mul_of_pos_right (ltb→lt (k * up d) (n * down d) u) (down_pos e) in
    lt→ltb (m * up e) (n * down e) (lt_of_mul-lt-mul_right (down d) (lt_of_le_of_lt c (subst (λ (z : ℕ). k * up d * down e < z) (mul_right_comm n (down d) (down e)) v)))

cast_under : (n : ℕ) (x : Float) → n ≤ 64 → T (under n x) → whole_below n x ≡ to_unsigned 64 x
cast_under n nan h u = absurd u
cast_under n (inf s) h u = absurd u
cast_under n (fin true m e) h u = absurd u
cast_under n (fin false m e) h u = whole_cast m e n (omega arith) ((div-lt_iff_lt-mul (down_pos e)).1 (ltb→lt (m * up e) (n * down e) u))

-- a zero times a number above zero is that zero
times_zero : (s : Bool) (e : ℤ) (y : Float) → T (positive y) → fin s zero e ⊛ y ≡ fin s 0 (pos 0)
unfolding mul
times_zero s e nan q = absurd q
times_zero s e (inf t) q = absurd q
times_zero s e (fin true n d) q = absurd q
times_zero s e (fin false n d) q =
    round_same binary64 (unlike s false) (0 * up e * (n * up d)) (down e * down d) 0 1 (mul-pos (down_pos e) (down_pos d)) (omega arith) (simp (zero-mul)) ∙ zero_rounded s
  where
    zero_rounded : (s : Bool) → round binary64 (unlike s false) 0 1 ≡ fin s 0 (pos 0)
    zero_rounded true = refl
    zero_rounded false = refl

no_minus : (m : ℕ) (e : ℤ) → le zero_f (fin true (suc m) e) ≡ true → ⊥
unfolding le of_bits
no_minus m e a =
    let z : 0 * 1 * down e ≡ suc m * up e * 1 = eqb→eq (0 * 1 * down e) (suc m * up e * 1) (and_l (eqb (0 * 1 * down e) (suc m * up e * 1)) (eqb (0 * 1 * down e) 0) (subst T (sym a) tt)) in
    let p : 0 < suc m * up e = mul-pos (omega arith) (up_pos e) in
    let o : 0 * 1 * down e ≡ 0 = simp zero-mul in
    omega arith

module _ (layers : ℕ) (some : 1 ≤ layers) (most : layers ≤ 64) where
  counted : T (bounded layers)
  counted = subst T (sym (holds_at bounded 64 1 all_bounded layers some (omega arith))) tt

  count_positive : T (positive (whole layers))
  count_positive = and_l (positive (whole layers)) (le (whole layers) (whole layers) && under layers (largest ⊛ whole layers)) counted

  rest : T (le (whole layers) (whole layers) && under layers (largest ⊛ whole layers))
  rest = and_r (positive (whole layers)) (le (whole layers) (whole layers) && under layers (largest ⊛ whole layers)) counted

  zeros : T (cut_zero layers)
  zeros = subst T (sym (holds_at cut_zero 64 1 all_cut_zero layers some (omega arith))) tt

  cast_zero : (s : Bool) → whole_below layers (fin s 0 (pos 0)) ≡ to_unsigned 64 (fin s 0 (pos 0))
  unfolding to_unsigned
  cast_zero true = eqb→eq _ 0 (and_l (eqb (whole_below layers (fin true 0 (pos 0))) 0) (eqb (whole_below layers (fin false 0 (pos 0))) 0) zeros)
  cast_zero false = eqb→eq _ 0 (and_r (eqb (whole_below layers (fin true 0 (pos 0))) 0) (eqb (whole_below layers (fin false 0 (pos 0))) 0) zeros)

  cast_product : (position : Float) → T (fits binary64 position) → le zero_f position ≡ true → lt position one_f ≡ true → whole_below layers (position ⊛ whole layers) ≡ to_unsigned 64 (position ⊛ whole layers)
  unfolding le lt of_bits
  cast_product nan f a b = absurd (true≢false (sym a))
  cast_product (inf true) f a b = absurd (true≢false (sym a))
  cast_product (inf false) f a b = absurd (true≢false (sym b))
  cast_product (fin true (suc m) e) f a b = absurd (no_minus m e a)
  cast_product (fin s zero e) f a b = rw (times_zero s e (whole layers) count_positive) (cast_zero s)
  cast_product (fin false (suc m) e) f a b =
      let p : T (positive (fin false (suc m) e)) = lt→ltb 0 (suc m) (omega arith) in
      let q = count_positive in
      cast_under layers (fin false (suc m) e ⊛ whole layers) most
      (under_le layers (fin false (suc m) e ⊛ whole layers) (largest ⊛ whole layers) (plus_mul (fin false (suc m) e) (whole layers) p q)
      (mul_mono binary64 (fin false (suc m) e) largest (whole layers) (whole layers) p tt q q (at_most_largest m e f b) (and_l (le (whole layers) (whole layers)) (under layers (largest ⊛ whole layers)) rest))
      (and_r (le (whole layers) (whole layers)) (under layers (largest ⊛ whole layers)) rest))

  -- the laws: the layer is below the number of layers, whatever the position; and it is what a cast of the product gives
  pub layer_below : (position : Float) → layer_of position layers < layers
  unfolding layer_of
  layer_below position = whole_below_bound layers (position ⊛ whole layers) (omega arith)

  pub layer_cast : (position : Float) → T (fits binary64 position) → le zero_f position ≡ true → lt position one_f ≡ true → layer_of position layers ≡ to_unsigned 64 (position ⊛ whole layers)
  unfolding layer_of
  layer_cast position f a b = cast_product position f a b

-- the layer of position 1 is the top one, for every number of layers
pub layer_of_one : (layers : ℕ) → 1 ≤ layers → layers ≤ 2 ^ 53 → layer_of one_f layers ≡ layers - 1
unfolding layer_of
layer_of_one zero some most = absurd (omega arith)
layer_of_one (suc k) some most = whole_of_one k most ∙ omega arith

-- and so is that of the largest double below 1: what takes its place where the Rust has no layer for 1
pub layer_just_below : (layers : ℕ) → 1 ≤ layers → layers ≤ 64 → layer_of just_below_one layers ≡ layer_of one_f layers
layer_just_below layers some most = eqb→eq _ _ (subst T (sym (holds_at same_layer 64 1 all_same_layer layers some (omega arith))) tt)
