-- Proves that a double is a number exactly where it equals itself; that what is at least something is a number; and that a number is at most 1, or above it.
use mathlib.Core.Bool.{Bool, true, false, not, ◌&&◌, ◌||◌, true≢false}
use mathlib.Core.Logic.{⊎_elim}
use mathlib.Core.Path.{◌≡◌, refl, sym, subst}
use Prim.Native.Nat.{ℕ, ◌+◌, ◌*◌, ◌≤◌, ◌<◌}
use native.Mathlib.Omega.{arith}
use native.Mathlib.Nat.{eq-or-lt_of_le}
use borrow.Author.Tests.{lt-ltb, le-ltb, eq-eqb, ne_eqb}
use lib.Dec.{T, ltb, eqb, ltb→lt, nltb→le}
use lib.Ieee.{Float, nan, inf, fin, up, down, lt, le, eq, ne, is_nan, of_bits}
use lib.Ieee.Compare.{differs_from_itself}
use lib.Ieee.Fits.{down_pos}
use Rattle.numeric.specs.Double.{one_f}

pub equal_number : (x : Float) → eq x x ≡ true → T (not (is_nan x))
unfolding eq is_nan
equal_number nan h = absurd (true≢false (sym h))
equal_number (inf s) h = tt
equal_number (fin s m e) h = tt

pub unequal_nan : (x : Float) → eq x x ≡ false → x ≡ nan
unfolding ne
unequal_nan x h = differs_from_itself x (subst (λ (b : Bool). T (not b)) (sym h) tt)

-- nothing is at most a not-a-number
pub not_at_nan : (x : Float) → le x nan ≡ false
unfolding le lt eq
not_at_nan nan = refl
not_at_nan (inf s) = refl
not_at_nan (fin s m e) = refl

pub at_least_number : (x y : Float) → T (le x y) → T (not (is_nan y))
unfolding is_nan
at_least_number x nan h = absurd (subst T (not_at_nan x) h)
at_least_number x (inf s) h = tt
at_least_number x (fin s m e) h = tt

pub at_most_or_above : (a b : ℕ) → (ltb a b || (eqb a b && true)) ≡ not (ltb b a)
at_most_or_above a b = go (ltb b a) refl (ltb→lt b a) (nltb→le b a)
  where
    go : (t : Bool) → ltb b a ≡ t → (T t → b < a) → (T (not t) → a ≤ b) → (ltb a b || (eqb a b && true)) ≡ not t
    go true e f g = let l = f tt in rw (le-ltb a b (omega arith), ne_eqb a b (λ z. omega arith))
    go false e f g = ⊎_elim (λ z. rw (le-ltb a b (omega arith), eq-eqb a b z)) (λ l. rw (lt-ltb a b l)) (eq-or-lt_of_le (g tt))

pub one_or_above : (x : Float) → T (not (is_nan x)) → le x one_f ≡ not (lt one_f x)
unfolding le lt eq is_nan of_bits
one_or_above nan n = absurd n
one_or_above (inf true) n = refl
one_or_above (inf false) n = refl
one_or_above (fin true m e) n = let p = down_pos e in rw (lt-ltb 0 (m * up e * 1 + 1 * 1 * down e) (omega arith))
one_or_above (fin false m e) n = at_most_or_above (m * up e * 1) (1 * 1 * down e)
