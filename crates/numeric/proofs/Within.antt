-- Proves Close of two numbers above zero (01, Arithmetic underneath): their distance is upper - lower, and the larger magnitude is upper; whichever of them is
-- first.
use mathlib.Core.Path.{◌≡◌, refl, sym, ap, ◌∙◌, subst}
use mathlib.Core.Logic.{⊎_elim}
use mathlib.Core.Bool.{Bool, true, false, not, cond, ◌&&◌, ◌||◌, true≢false}
use Prim.Native.Nat.{ℕ, zero, suc, ◌+◌, ◌-◌, ◌*◌, ◌^◌, ◌<◌}
use native.Mathlib.Nat.{mul_comm, mul-pos, zero-lt-suc, eq-or-lt_of_le}
use native.Mathlib.Omega.{arith}
use borrow.Author.Tests.{ltb-true, ltb-false, eqb-false, ne_eqb, lt-ltb, le-ltb}
use lib.Dec.{T, ltb, eqb}
use lib.IntN.{ℤ}
use lib.Ieee.{Float, nan, inf, fin, Format, binary64, prec, emax, low, up, down, odd, units, round, sum, add, sub, neg, lt, le, eq, fits, of_bits}
use lib.Ieee.Fits.{up_pos, down_pos, neg-fits}
use lib.Ieee.Scale.{finite}
use denote.Floats.{passes}
use Rattle.numeric.specs.Double.{◌⊖◌, ◌⊛◌, zero_f, relative_tolerance, narrow_tolerance, wide_tolerance}
use Rattle.numeric.specs.Compare.{max_of2}
use Rattle.numeric.specs.Close.{magnitude, infinite, within, close, ClosePair}
use Rattle.numeric.proofs.Zeros.{is_minus_zero, add_not_minus}

-- ---- a rounded fraction with the sign of minus: it is not above zero, and its opposite is the fraction with the sign of plus
abbrev Minus : Float → Type 0
Minus nan = ⊥
Minus (inf s) = s ≡ true
Minus (fin s m e) = s ≡ true

minus_odd : (d q k l : ℕ) → Minus (odd d true q k l) × (neg (odd d true q k l) ≡ odd d false q k l)
unfolding odd neg
minus_odd d zero k l = (refl, refl)
minus_odd d (suc q) k l = (refl, refl)

minus_units : (f : Format) (q k : ℕ) → Minus (units f true q k) × (neg (units f true q k) ≡ units f false q k)
unfolding units
minus_units f q k = go (ltb (q * 2 ^ k) (2 ^ (low f + suc (emax f))))
  where
    go : (b : Bool) → Minus (cond b (odd (suc (prec f)) true q k (low f)) (inf true)) × (neg (cond b (odd (suc (prec f)) true q k (low f)) (inf true)) ≡ cond b (odd (suc (prec f)) false q k (low f)) (inf false))
    go true = minus_odd (suc (prec f)) q k (low f)
    go false = (refl, unfold neg in refl)

pub minus_round : (f : Format) (a c : ℕ) → Minus (round f true a c) × (neg (round f true a c) ≡ round f false a c)
unfolding round
minus_round f a c = minus_units f _ _

below_zero : (x : Float) → Minus x → T (not (is_minus_zero x)) → lt x zero_f ≡ true
unfolding lt of_bits
below_zero nan h n = absurd h
below_zero (inf s) h n = h
below_zero (fin s zero e) h n = absurd (subst (λ (b : Bool). T (not b)) h n)
below_zero (fin s (suc m) e) h n =
    let p : 0 < suc m * up e = mul-pos (zero-lt-suc m) (up_pos e) in
    rw h (lt-ltb 0 (suc m * up e * 1 + 0 * 1 * down e) (omega arith))

plus_sign : (m : ℕ) (e : ℤ) → T (not (is_minus_zero (fin false m e)))
plus_sign zero e = tt
plus_sign (suc m) e = tt

plus_magnitude : (m : ℕ) (e : ℤ) → magnitude (fin false m e) ≡ fin false m e
unfolding magnitude lt of_bits
plus_magnitude m e = rw (le-ltb (m * up e * 1) (0 * 1 * down e) (omega arith)) refl

or_swap : (a b : Bool) → (a || b) ≡ (b || a)
or_swap true true = refl
or_swap true false = refl
or_swap false true = refl
or_swap false false = refl

-- ---- two numbers with the sign of plus, the lower first
module _ (m : ℕ) (e : ℤ) (n : ℕ) (g : ℤ) (h : m * up e * down g < n * up g * down e) where
  abbrev difference : ℕ
  difference = n * up g * down e - m * up e * down g

  down_difference : fin false m e ⊖ fin false n g ≡ round binary64 true difference (down e * down g)
  unfolding sub add neg sum
  down_difference = rw (lt-ltb (m * up e * down g) (n * up g * down e) h) refl

  up_difference : fin false n g ⊖ fin false m e ≡ round binary64 false difference (down e * down g)
  unfolding sub add neg sum
  up_difference = rw (le-ltb (n * up g * down e) (m * up e * down g) (omega arith), mul_comm (down g) (down e)) refl

  distance : T (fits binary64 (fin false m e)) → T (fits binary64 (fin false n g)) → magnitude (fin false m e ⊖ fin false n g) ≡ fin false n g ⊖ fin false m e
  unfolding magnitude
  distance p q =
      let minus = minus_round binary64 difference (down e * down g) in
      let some : T (not (is_minus_zero (fin false m e ⊖ fin false n g))) = unfold sub in add_not_minus binary64 (fin false m e) (neg (fin false n g)) p (neg-fits binary64 (fin false n g) q) (plus_sign m e) in
      rw (below_zero (fin false m e ⊖ fin false n g) (rw down_difference minus.0) some) (ap neg down_difference ∙ minus.1 ∙ sym up_difference)

  not_above : lt (fin false n g) (fin false m e) ≡ false
  unfolding lt
  not_above = le-ltb (n * up g * down e) (m * up e * down g) (omega arith)

  within_plus : (t : Float) → T (fits binary64 (fin false m e)) → T (fits binary64 (fin false n g)) → within (fin false m e) (fin false n g) t ≡ (le (fin false n g ⊖ fin false m e) (relative_tolerance ⊛ fin false n g) || le (fin false n g ⊖ fin false m e) t)
  unfolding within max_of2
  within_plus t p q = rw (distance p q, plus_magnitude m e, plus_magnitude n g, not_above) (or_swap (le (fin false n g ⊖ fin false m e) t) (le (fin false n g ⊖ fin false m e) (relative_tolerance ⊛ fin false n g)))

-- ---- the law
or_false : (a b : Bool) → (a || b) ≡ false → (a ≡ false) × (b ≡ false)
or_false true b h = absurd (true≢false h)
or_false false b h = (refl, h)

and_first : (a : Bool) → (a && true) ≡ false → a ≡ false
and_first true h = h
and_first false h = h

strictly : (a b : ℕ) → (ltb b a || (eqb b a && true)) ≡ false → a < b
strictly a b h =
    let both = or_false (ltb b a) (eqb b a && true) h in
    ⊎_elim (λ e. absurd (eqb-false b a (and_first (eqb b a) both.1) (sym e))) (λ l. l) (eq-or-lt_of_le (ltb-false b a both.0))

above : (m : ℕ) (e : ℤ) → ltb (0 * 1 * down e) (m * up e * 1) ≡ true → 0 < m * up e
above m e z = let l = ltb-true (0 * 1 * down e) (m * up e * 1) z in omega arith

pub within_above : (lower upper t : Float) → T (fits binary64 lower) → T (fits binary64 upper) → T (finite lower) → T (finite upper) → lt zero_f lower ≡ true → le upper lower ≡ false → within lower upper t ≡ (le (upper ⊖ lower) (relative_tolerance ⊛ upper) || le (upper ⊖ lower) t)
unfolding lt le eq of_bits
within_above nan upper t p q f g z h = absurd f
within_above (inf s) upper t p q f g z h = absurd f
within_above (fin s m e) nan t p q f g z h = absurd g
within_above (fin s m e) (inf u) t p q f g z h = absurd g
within_above (fin true m e) (fin u n k) t p q f g z h = absurd (true≢false (sym z))
within_above (fin false m e) (fin true n k) t p q f g z h =
    let a = ltb-false 0 (n * up k * down e + m * up e * down k) (or_false (ltb 0 (n * up k * down e + m * up e * down k)) _ h).0 in
    let b : 0 < m * up e = above m e z in
    let c : 0 < m * up e * down k = mul-pos b (down_pos k) in
    absurd (omega arith)
within_above (fin false m e) (fin false n k) t p q f g z h = within_plus m e n k (strictly (m * up e * down k) (n * up k * down e) h) t p q

-- ---- Close of two numbers above zero, either of them first. The upper one may be infinite: so is its distance, and it is close to nothing else.
minus_magnitude : (x : Float) → Minus x → magnitude (neg x) ≡ neg x
unfolding magnitude lt neg of_bits
minus_magnitude nan h = absurd h
minus_magnitude (inf s) h = rw h refl
minus_magnitude (fin s m e) h = rw h (plus_magnitude m e)

module _ (m : ℕ) (e : ℤ) (n : ℕ) (g : ℤ) (h : m * up e * down g < n * up g * down e) where
  distance_back : magnitude (fin false n g ⊖ fin false m e) ≡ fin false n g ⊖ fin false m e
  distance_back =
      let minus = minus_round binary64 (difference m e n g h) (down e * down g) in
      let same = up_difference m e n g h ∙ sym minus.1 in
      rw same (minus_magnitude _ minus.0)

  lower_first : lt (fin false m e) (fin false n g) ≡ true
  unfolding lt
  lower_first = lt-ltb (m * up e * down g) (n * up g * down e) h

  within_back : (t : Float) → within (fin false n g) (fin false m e) t ≡ (le (fin false n g ⊖ fin false m e) t || le (fin false n g ⊖ fin false m e) (relative_tolerance ⊛ fin false n g))
  unfolding within max_of2
  within_back t = rw (distance_back, plus_magnitude m e, plus_magnitude n g, lower_first) refl

-- what the code works: the distance is at most t, or at most 1e-9 of an upper number that is not infinite
abbrev Pair : Float → Float → Float → Bool
Pair lower upper t = le (upper ⊖ lower) t || (le (upper ⊖ lower) (relative_tolerance ⊛ upper) && not (infinite upper))

and_right : (a : Bool) → ((a && true) ≡ a) × ((a && false) ≡ false)
and_right true = (refl, refl)
and_right false = (refl, refl)

module _ (m : ℕ) (e : ℤ) (t : Float) where
  infinite_distance : T (finite t) → le (inf false ⊖ fin false m e) t ≡ false
  unfolding sub add neg le
  infinite_distance f = go t f
    where
      go : (x : Float) → T (finite x) → le (inf false) x ≡ false
      go nan f = absurd f
      go (inf s) f = absurd f
      go (fin s n g) f = refl

  infinite_pair : T (finite t) → ClosePair (fin false m e) (inf false) t (Pair (fin false m e) (inf false) t)
  unfolding close eq infinite
  infinite_pair f = rw (infinite_distance f, (and_right (le (inf false ⊖ fin false m e) (relative_tolerance ⊛ inf false))).1) (record { lower_first = refl; upper_first = refl })

  module _ (n : ℕ) (g : ℤ) (h : m * up e * down g < n * up g * down e) where
    finite_pair : T (fits binary64 (fin false m e)) → T (fits binary64 (fin false n g)) → ClosePair (fin false m e) (fin false n g) t (Pair (fin false m e) (fin false n g) t)
    unfolding close eq infinite
    finite_pair p q =
        let far : eqb (m * up e * down g) (n * up g * down e) ≡ false = ne_eqb (m * up e * down g) (n * up g * down e) (λ z. omega arith) in
        let back : eqb (n * up g * down e) (m * up e * down g) ≡ false = ne_eqb (n * up g * down e) (m * up e * down g) (λ z. omega arith) in
        let a = le (fin false n g ⊖ fin false m e) (relative_tolerance ⊛ fin false n g) in
        rw (and_right a).0 (record { lower_first = rw (far, within_plus m e n g h t p q) (or_swap (le (fin false n g ⊖ fin false m e) t) a); upper_first = rw (back, within_back m e n g h t) refl })

-- the law
pub close_pair : (lower upper t : Float) → T (fits binary64 lower) → T (fits binary64 upper) → T (finite t) → lt zero_f lower ≡ true → lt lower upper ≡ true → ClosePair lower upper t (Pair lower upper t)
unfolding lt of_bits
close_pair nan upper t p q f z h = absurd (true≢false (sym z))
close_pair (inf true) upper t p q f z h = absurd (true≢false (sym z))
close_pair (inf false) nan t p q f z h = absurd (true≢false (sym h))
close_pair (inf false) (inf s) t p q f z h = absurd (true≢false (sym h))
close_pair (inf false) (fin s n g) t p q f z h = absurd (true≢false (sym h))
close_pair (fin true m e) upper t p q f z h = absurd (true≢false (sym z))
close_pair (fin false m e) nan t p q f z h = absurd (true≢false (sym h))
close_pair (fin false m e) (inf true) t p q f z h = absurd (true≢false (sym h))
close_pair (fin false m e) (inf false) t p q f z h = infinite_pair m e t f
close_pair (fin false m e) (fin true n g) t p q f z h = absurd (true≢false (sym h))
close_pair (fin false m e) (fin false n g) t p q f z h = finite_pair m e t n g (ltb-true (m * up e * down g) (n * up g * down e) h) p q

-- the tolerances are finite
pub narrow_finite : finite narrow_tolerance ≡ true
unfolding of_bits
narrow_finite = refl

pub wide_finite : finite wide_tolerance ≡ true
unfolding of_bits
wide_finite = refl

-- what the code answers, where it comes to `Pair`
pub closes : (lower upper t : Float) → fits binary64 lower ≡ true → fits binary64 upper ≡ true → (r : Bool) → r ≡ Pair lower upper t
    → finite t ≡ true → lt zero_f lower ≡ true → lt lower upper ≡ true → ClosePair lower upper t r
closes lower upper t p q r e f z h = rw e (close_pair lower upper t (passes _ p) (passes _ q) (passes _ f) z h)
