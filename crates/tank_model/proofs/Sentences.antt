-- Proves what tests say: what a test that fails says of a refusal's sentence, and what one that holds says of a fact (01, The four calls).
use mathlib.Core.Path.{◌≡◌, refl, sym, subst}
use mathlib.Core.Logic.{◌↔◌, ◌⊎◌, inl, inr, ⊎_elim, ◌≢◌}
use mathlib.Core.Bool.{Bool, true, false, not, ◌&&◌, ◌||◌, true≢false}
use Prim.Native.Nat.{ℕ, ◌<◌, ◌≤◌}
use native.Mathlib.Omega.{arith}
use lib.Dec.{T, leb, eqb, leb→le, nleb→lt, eqb→eq}
use lib.Ieee.{Float, lt}
use lib.Ieee.Scale.{finite}
use lib.Ieee.Bits.{is_true}
use lib.Ieee.Fits.{eq→eqb}
use Rattle.numeric.specs.Double.{zero_f}
use Rattle.numeric.specs.Holds.{holds, holds_at, at_holds, holds_fails}
use Rattle.tank_model.specs.Refusals.{NotFinite, BelowZero, SomeBelow}

-- ---- a test that holds

pub itself : {P : Type 0} → P ↔ P
itself = (λ t. t, λ t. t)

pub or_says : (a b : Bool) → T (a || b) ↔ (T a ⊎ T b)
or_says true b = (λ t. inl tt, λ x. tt)
or_says false true = (λ t. inr tt, λ x. tt)
or_says false false = (λ t. absurd t, λ x. ⊎_elim (λ y. y) (λ y. y) x)

pub or_and_says : (a b c : Bool) → T (a || (b && c)) ↔ (T a ⊎ (T b × T c))
or_and_says true b c = (λ t. inl tt, λ x. tt)
or_and_says false true c = (λ t. inr (tt, t), λ x. ⊎_elim (λ y. absurd y) (λ y. y.1) x)
or_and_says false false c = (λ t. absurd t, λ x. ⊎_elim (λ y. y) (λ y. y.0) x)

pub not_both : (b : Bool) → T b → T (not b) → ⊥
not_both true t n = n
not_both false t n = t

pub twice_not : (b : Bool) → T (not (not b)) → T b
twice_not true t = t
twice_not false t = t

pub not_true : (b : Bool) → ¬ (T b) → b ≡ false
not_true true n = absurd (n tt)
not_true false n = refl

-- two tests that say the same are the same
pub same_test : (a b : Bool) {P : Type 0} → T a ↔ P → T b ↔ P → a ≡ b
same_test true true p q = refl
same_test true false p q = absurd (q.1 (p.0 tt))
same_test false true p q = absurd (p.1 (q.0 tt))
same_test false false p q = refl

-- a test of each of the first n places
pub each_says : (p : ℕ → Bool) (n : ℕ) {P : ℕ → Type 0} → ((k : ℕ) → k < n → T (p k) ↔ P k) → T (holds p n 0) ↔ ((k : ℕ) → k < n → P k)
each_says p n e = (
  λ t k l. (e k l).0 (subst T (sym (holds_at p n 0 (is_true (holds p n 0) t) k (omega arith) (omega arith))) tt),
  λ a. subst T (sym (at_holds p n 0 (λ k l u. is_true (p k) ((e k (omega arith)).1 (a k (omega arith)))))) tt,
)

-- ---- a test that fails

-- the test fails exactly when S holds
pub data Fails (S : Type 0) : Bool → Type 0 where
  passing : ¬ S → Fails S true
  failing : S → Fails S false

pub fails_not : (b : Bool) {P : Type 0} → T b ↔ P → Fails (¬ P) b
fails_not true e = passing (λ n. n (e.0 tt))
fails_not false e = failing e.1

pub fails_test : (b : Bool) → Fails (T b) (not b)
fails_test true = failing tt
fails_test false = passing (λ t. t)

pub fails_as : {b : Bool} {S R : Type 0} → S ↔ R → Fails S b → Fails R b
fails_as e (passing f) = passing (λ r. f (e.1 r))
fails_as e (failing f) = failing (e.0 f)

pub fails_two : {a b : Bool} {S R : Type 0} → Fails S a → Fails R b → Fails (S ⊎ R) (a && b)
fails_two (passing p) (passing q) = passing (λ x. ⊎_elim p q x)
fails_two (passing p) (failing q) = failing (inr q)
fails_two (failing p) q = failing (inl p)

-- the second test is only asked where the first holds
pub fails_then : {a b : Bool} {S R : Type 0} → Fails S a → (T a → Fails R b) → Fails (S ⊎ R) (a && b)
fails_then (passing p) q = fails_two (passing p) (q tt)
fails_then (failing p) q = failing (inl p)

pub fails_three : {a b c : Bool} {S R Q : Type 0} → Fails S a → Fails R b → Fails Q c → Fails (S ⊎ R ⊎ Q) (a && b && c)
fails_three (passing p) q r = fails_as (λ x. inr x, λ x. ⊎_elim (λ y. absurd (p y)) (λ y. y) x) (fails_two q r)
fails_three (failing p) q r = failing (inl p)

pub fails_four : {a b c d : Bool} {S R Q P : Type 0} → Fails S a → Fails R b → Fails Q c → Fails P d → Fails (S ⊎ R ⊎ Q ⊎ P) (a && b && c && d)
fails_four (passing p) q r t = fails_as (λ x. inr x, λ x. ⊎_elim (λ y. absurd (p y)) (λ y. y) x) (fails_three q r t)
fails_four (failing p) q r t = failing (inl p)

-- one that holds, and one that does not
not_so : {b : Bool} {S : Type 0} → Fails S b → b ≡ true → ¬ S
not_so (passing f) e = f
not_so (failing f) e = absurd (true≢false (sym e))

so : {b : Bool} {S : Type 0} → Fails S b → b ≡ false → S
so (passing f) e = absurd (true≢false e)
so (failing f) e = f

pub fails_some : (p : ℕ → Bool) (n : ℕ) (P : ℕ → Type 0) → ((k : ℕ) → k < n → Fails (P k) (p k)) → Fails (SomeBelow n P) (holds p n 0)
fails_some p n P e = go (holds p n 0) refl
  where
    go : (b : Bool) → holds p n 0 ≡ b → Fails (SomeBelow n P) b
    go true h = passing (λ x. not_so (e x.0 x.1) (holds_at p n 0 h x.0 (omega arith) (omega (arith, x.1))) x.2)
    go false h = let r = holds_fails p n 0 h in let l : r.0 < n = omega (arith, r.2) in failing (r.0, l, so (e r.0 l) r.3)

pub fails_le : (a b : ℕ) → Fails (b < a) (leb a b)
fails_le a b = go (leb a b) (leb→le a b) (nleb→lt a b)
  where
    go : (t : Bool) → (T t → a ≤ b) → (T (not t) → b < a) → Fails (b < a) t
    go true f g = passing (λ l. let k = f tt in omega arith)
    go false f g = failing (g tt)

pub fails_eq : (a b : ℕ) → Fails (a ≢ b) (eqb a b)
fails_eq a b = fails_not (eqb a b) (eqb→eq a b, λ e. eq→eqb e)

pub fails_finite : (x : Float) → Fails (NotFinite x) (finite x)
fails_finite x = fails_not (finite x) itself

-- finite and not below zero
pub fails_negative : (x : Float) → Fails (NotFinite x ⊎ BelowZero x) (finite x && not (lt x zero_f))
fails_negative x = fails_two (fails_finite x) (fails_test (lt x zero_f))
