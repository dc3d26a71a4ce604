-- Proves that doubles which are finite and not below zero stand in one order, both zeros at one place of it (01, Arithmetic underneath): 'at most' goes through
-- and leaves no two apart; `<` says that the other way round is not at most, and `==` that both ways are. What sorts by such doubles cites it.
use mathlib.Core.Bool.{Bool, true, false, not, ◌&&◌, ◌||◌}
use mathlib.Core.Logic.{◌⊎◌, inl, inr}
use mathlib.Core.Path.{◌≡◌, refl, sym, ap, ◌∙◌, subst}
use Prim.Native.Nat.{ℕ, ◌+◌, ◌*◌, ◌≤◌, ◌<◌}
use native.Mathlib.Nat.{zero-add, zero-mul}
use native.Mathlib.Omega.{arith}
use borrow.Author.Tests.{le-ltb, eq-eqb, ne_eqb}
use lib.Dec.{T, ltb, eqb, ltb→lt, nltb→le}
use lib.IntN.{ℤ}
use lib.Ieee.{Float, nan, inf, fin, up, down, lt, le, eq, of_bits}
use lib.Ieee.Positive.{num, den, den_pos, through}
use lib.Ieee.Scale.{finite}
use Rattle.numeric.specs.Double.{zero_f}
use Rattle.numeric.proofs.NotANumber.{at_most_or_above}

-- finite and not below zero
abbrev pub NotBelowZero : Float → Type 0
NotBelowZero x = T (finite x && not (lt x zero_f))

-- ---- two of them are compared as the fractions that they are

-- what is written with a minus is a zero
minus_zero : (m : ℕ) (e : ℤ) (d : ℕ) → NotBelowZero (fin true m e) → m * up e * d ≡ 0
unfolding lt of_bits
minus_zero m e d h =
    let l = nltb→le 0 (m * up e * 1 + 0 * 1 * down e) h in
    let z : m * up e ≡ 0 = omega arith in
    ap (λ (x : ℕ). x * d) z ∙ zero-mul d

and_true : (b : Bool) → (b && true) ≡ b
and_true true = refl
and_true false = refl

and_self : (b : Bool) → (b && b) ≡ b
and_self true = refl
and_self false = refl

pub below_cross : (x y : Float) → NotBelowZero x → NotBelowZero y → lt x y ≡ ltb (num x * den y) (num y * den x)
unfolding lt
below_cross nan y h k = absurd h
below_cross (inf s) y h k = absurd h
below_cross (fin s m e) nan h k = absurd k
below_cross (fin s m e) (inf t) h k = absurd k
below_cross (fin false m e) (fin false n d) h k = refl
below_cross (fin true m e) (fin false n d) h k = rw (minus_zero m e (down d) h, zero-add (n * up d * down e))
below_cross (fin false m e) (fin true n d) h k = let z = minus_zero n d (down e) k in sym (le-ltb (m * up e * down d) (n * up d * down e) (omega arith))
below_cross (fin true m e) (fin true n d) h k = rw (minus_zero m e (down d) h, minus_zero n d (down e) k)

pub equal_cross : (x y : Float) → NotBelowZero x → NotBelowZero y → eq x y ≡ eqb (num x * den y) (num y * den x)
unfolding eq
equal_cross nan y h k = absurd h
equal_cross (inf s) y h k = absurd h
equal_cross (fin s m e) nan h k = absurd k
equal_cross (fin s m e) (inf t) h k = absurd k
equal_cross (fin false m e) (fin false n d) h k = and_true (eqb (m * up e * down d) (n * up d * down e))
equal_cross (fin true m e) (fin false n d) h k = rw (minus_zero m e (down d) h) (and_true (eqb 0 (n * up d * down e)))
equal_cross (fin false m e) (fin true n d) h k = rw (minus_zero n d (down e) k) (and_self (eqb (m * up e * down d) 0))
equal_cross (fin true m e) (fin true n d) h k = and_true (eqb (m * up e * down d) (n * up d * down e))

-- ---- the laws

module _ (x y : Float) (h : NotBelowZero x) (k : NotBelowZero y) where
  at_most_not : le x y ≡ not (ltb (num y * den x) (num x * den y))
  unfolding le
  at_most_not =
      rw (below_cross x y h k, equal_cross x y h k)
      (ap (λ (b : Bool). ltb (num x * den y) (num y * den x) || b) (sym (and_true (eqb (num x * den y) (num y * den x))))
      ∙ at_most_or_above (num x * den y) (num y * den x))

  pub at_most_cross : T (le x y) → num x * den y ≤ num y * den x
  at_most_cross t = nltb→le (num y * den x) (num x * den y) (subst T at_most_not t)

  pub cross_at_most : num x * den y ≤ num y * den x → T (le x y)
  cross_at_most l = subst T (sym (at_most_not ∙ ap not (le-ltb (num y * den x) (num x * den y) l))) tt

not_twice : (b : Bool) → b ≡ not (not b)
not_twice true = refl
not_twice false = refl

pub below_not_above : (x y : Float) → NotBelowZero x → NotBelowZero y → lt x y ≡ not (le y x)
below_not_above x y h k = below_cross x y h k ∙ (not_twice (ltb (num x * den y) (num y * den x)) ∙ ap not (sym (at_most_not y x k h)))

both_ways : (a b : ℕ) → eqb a b ≡ (not (ltb b a) && not (ltb a b))
both_ways a b = go (ltb b a) refl (ltb→lt b a) (nltb→le b a) (ltb a b) refl (ltb→lt a b) (nltb→le a b)
  where
    go : (s : Bool) → ltb b a ≡ s → (T s → b < a) → (T (not s) → a ≤ b) → (t : Bool) → ltb a b ≡ t → (T t → a < b) → (T (not t) → b ≤ a) → eqb a b ≡ (not s && not t)
    go true e f g t e' f' g' = let l = f tt in ne_eqb a b (λ z. omega arith)
    go false e f g true e' f' g' = let l = f' tt in ne_eqb a b (λ z. omega arith)
    go false e f g false e' f' g' = let l = g tt in let m = g' tt in eq-eqb a b (omega arith)

pub equal_both_ways : (x y : Float) → NotBelowZero x → NotBelowZero y → eq x y ≡ (le x y && le y x)
equal_both_ways x y h k =
    equal_cross x y h k ∙ (both_ways (num x * den y) (num y * den x) ∙ rw (at_most_not x y h k, at_most_not y x k h))

both_hold : (a b : Bool) → T a → T b → T (a && b)
both_hold true b t u = u
both_hold false b t u = absurd t

-- equal, by what is at most what; and below
pub equal_of : (x y : Float) → NotBelowZero x → NotBelowZero y → T (le x y) → T (le y x) → T (eq x y)
equal_of x y h k p q = subst T (sym (equal_both_ways x y h k)) (both_hold (le x y) (le y x) p q)

pub below_of : (x y : Float) → NotBelowZero x → NotBelowZero y → le y x ≡ false → T (lt x y)
below_of x y h k e = subst T (sym (below_not_above x y h k ∙ ap not e)) tt

pub at_most_through : (x y z : Float) → NotBelowZero x → NotBelowZero y → NotBelowZero z → T (le x y) → T (le y z) → T (le x z)
at_most_through x y z h k l p q =
    cross_at_most x z h l (through (num x) (num y) (num z) (den x) (den y) (den z) (den_pos y) (at_most_cross x y h k p) (at_most_cross y z k l q))

pub at_most_either : (x y : Float) → NotBelowZero x → NotBelowZero y → T (le x y) ⊎ T (le y x)
at_most_either x y h k = go (ltb (num y * den x) (num x * den y)) (ltb→lt (num y * den x) (num x * den y)) (nltb→le (num y * den x) (num x * den y))
  where
    go : (t : Bool) → (T t → num y * den x < num x * den y) → (T (not t) → num x * den y ≤ num y * den x) → T (le x y) ⊎ T (le y x)
    go true f g = let l = f tt in inr (cross_at_most y x k h (omega arith))
    go false f g = inl (cross_at_most x y h k (g tt))
