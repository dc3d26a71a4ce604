-- Proves what `==` says of two doubles (01, Arithmetic underneath): they are the same, or both are zeros; and what products do with doubles that are the same
-- but for the sign of a zero.
use mathlib.Core.Path.{◌≡◌, refl, sym, ap, ◌∙◌, subst}
use mathlib.Core.Logic.{⊎_elim, inl, inr}
use mathlib.Core.Bool.{Bool, true, false, ◌&&◌, ◌||◌, beq, true≢false}
use Prim.Native.Nat.{ℕ, zero, suc, ◌*◌, ◌<◌}
use native.Mathlib.Nat.{lt_irrefl, zero-lt-suc, mul-pos}
use borrow.Author.Tests.{eqb-true, eqb-false}
use lib.Dec.{T, eqb}
use lib.IntN.{ℤ}
use lib.Ieee.{Float, nan, inf, fin, binary64, unlike, level, fits, eq, up, down, lt, of_bits}
use lib.Ieee.Fits.{up_pos, down_pos}
use lib.Ieee.Scale.{finite}
use Rattle.numeric.specs.Double.{◌⊛◌, zero_f}
use Rattle.numeric.specs.Holds.{both}
use Rattle.numeric.specs.Zeros.{IsZero, SameValue, signed_zero}
use Rattle.numeric.proofs.Rounding.{unique}
use Rattle.numeric.proofs.Zeros.{zero_written, times_zero, zero_times}

is_zero : (s : Bool) (m : ℕ) (e : ℤ) (d : ℕ) → 0 < d → T (fits binary64 (fin s m e)) → m * up e * d ≡ 0 → IsZero (fin s m e)
is_zero s zero e d h p z = (s, zero_written binary64 s e p)
is_zero s (suc m) e d h p z = absurd (lt_irrefl 0 (subst (λ (x : ℕ). 0 < x) z (mul-pos (mul-pos (zero-lt-suc m) (up_pos e)) h)))

module _ (m : ℕ) (e : ℤ) (n : ℕ) (g : ℤ) (h : m * up e * down g ≡ n * up g * down e) where
  one_sign : (s : Bool) → T (fits binary64 (fin s m e)) → T (fits binary64 (fin s n g)) → fin s m e ≡ fin s n g
  one_sign s a b = unique binary64 (fin s m e) (fin s n g) s (m * up e) (down e) (down_pos e) a b (refl, refl) (refl, sym h)

  two_signs : (s t : Bool) → T (fits binary64 (fin s m e)) → T (fits binary64 (fin t n g)) → eqb (m * up e * down g) 0 ≡ true → IsZero (fin s m e) × IsZero (fin t n g)
  two_signs s t a b z =
      let w = eqb-true (m * up e * down g) 0 z in
      (is_zero s m e (down g) (down_pos g) a w, is_zero t n g (down e) (down_pos e) b (sym h ∙ w))

  signs : (s t : Bool) → T (fits binary64 (fin s m e)) → T (fits binary64 (fin t n g)) → (beq s t || eqb (m * up e * down g) 0) ≡ true → SameValue (fin s m e) (fin t n g)
  signs true true a b z = inl (one_sign true a b)
  signs false false a b z = inl (one_sign false a b)
  signs true false a b z = inr (two_signs true false a b z)
  signs false true a b z = inr (two_signs false true a b z)

-- the law
pub equal_same : (p q : Float) → T (fits binary64 p) → T (fits binary64 q) → eq p q ≡ true → SameValue p q
unfolding eq
equal_same nan q a b h = absurd (true≢false (sym h))
equal_same (inf s) nan a b h = absurd (true≢false (sym h))
equal_same (inf true) (inf true) a b h = inl refl
equal_same (inf true) (inf false) a b h = absurd (true≢false (sym h))
equal_same (inf false) (inf true) a b h = absurd (true≢false (sym h))
equal_same (inf false) (inf false) a b h = inl refl
equal_same (inf s) (fin t n g) a b h = absurd (true≢false (sym h))
equal_same (fin s m e) nan a b h = absurd (true≢false (sym h))
equal_same (fin s m e) (inf t) a b h = absurd (true≢false (sym h))
equal_same (fin s m e) (fin t n g) a b h =
    let both = both (eqb (m * up e * down g) (n * up g * down e)) (beq s t || eqb (m * up e * down g) 0) h in
    signs m e n g (eqb-true (m * up e * down g) (n * up g * down e) both.0) s t a b both.1

-- `==` looks at its two sides alike
level_swap : (s t : Bool) (a b : ℕ) → level s a t b ≡ level t b s a
level_swap s t a b = go (eqb a b) refl (eqb b a) refl
  where
    signs_swap : (s t : Bool) → beq s t ≡ beq t s
    signs_swap true true = refl
    signs_swap true false = refl
    signs_swap false true = refl
    signs_swap false false = refl

    go : (x : Bool) → eqb a b ≡ x → (y : Bool) → eqb b a ≡ y → (x && (beq s t || eqb a 0)) ≡ (y && (beq t s || eqb b 0))
    go true p true q = rw (signs_swap s t, eqb-true a b p) refl
    go true p false q = absurd (eqb-false b a q (sym (eqb-true a b p)))
    go false p true q = absurd (eqb-false a b p (sym (eqb-true b a q)))
    go false p false q = refl

pub equal_swap : (x y : Float) → eq x y ≡ eq y x
unfolding eq
equal_swap nan nan = refl
equal_swap nan (inf t) = refl
equal_swap nan (fin t n g) = refl
equal_swap (inf s) nan = refl
equal_swap (inf true) (inf true) = refl
equal_swap (inf true) (inf false) = refl
equal_swap (inf false) (inf true) = refl
equal_swap (inf false) (inf false) = refl
equal_swap (inf s) (fin t n g) = refl
equal_swap (fin s m e) nan = refl
equal_swap (fin s m e) (inf t) = refl
equal_swap (fin s m e) (fin t n g) = level_swap s t (m * up e * down g) (n * up g * down e)

pub same_back : (p q : Float) → SameValue p q → SameValue q p
same_back p q h = ⊎_elim (λ e. inl (sym e)) (λ z. inr (z.1, z.0)) h

pub same_through : (p q r : Float) → SameValue p q → SameValue q r → SameValue p r
same_through p q r (inl e) k = rw e k
same_through p q r (inr z) (inl f) = inr (z.0, rw (← f) z.1)
same_through p q r (inr z) (inr w) = inr (z.0, w.1)

pub same_finite : (p q : Float) → SameValue p q → T (finite p) → T (finite q)
same_finite p q (inl e) h = rw (← e) h
same_finite p q (inr z) h = rw z.1.1 tt

-- ---- products
pub zero_product_left : (x y : Float) → IsZero x → T (finite y) → IsZero (x ⊛ y)
zero_product_left x nan z h = absurd h
zero_product_left x (inf t) z h = absurd h
zero_product_left x (fin t n g) z h = rw z.1 (unlike z.0 t, zero_times binary64 z.0 t n g)

pub zero_product_right : (x y : Float) → T (finite x) → IsZero y → IsZero (x ⊛ y)
zero_product_right nan y h z = absurd h
zero_product_right (inf s) y h z = absurd h
zero_product_right (fin s m e) y h z = rw z.1 (unlike s z.0, times_zero binary64 s m e z.0)

-- the second factor may be either of two that are the same
pub same_right : (v x y : Float) → T (finite v) → SameValue x y → SameValue (v ⊛ x) (v ⊛ y)
same_right v x y f (inl e) = inl (ap (λ (z : Float). v ⊛ z) e)
same_right v x y f (inr z) = inr (zero_product_right v x f z.0, zero_product_right v y f z.1)

-- two products with one first factor are the same, so they are with another that is the same as that
pub same_left : (v w x y : Float) → T (finite x) → T (finite y) → SameValue v w → SameValue (w ⊛ x) (w ⊛ y) → SameValue (v ⊛ x) (v ⊛ y)
same_left v w x y f g (inl e) h = rw e h
same_left v w x y f g (inr z) h = inr (zero_product_left v x z.0 f, zero_product_left v y z.0 g)

-- the first factor may be either of two that are the same
pub same_factor : (v w x : Float) → T (finite x) → SameValue v w → SameValue (v ⊛ x) (w ⊛ x)
same_factor v w x f (inl e) = inl (ap (λ (z : Float). z ⊛ x) e)
same_factor v w x f (inr z) = inr (zero_product_left v x z.0 f, zero_product_left w x z.1 f)

zero_not_above : (s : Bool) → lt zero_f (signed_zero s) ≡ false
unfolding lt of_bits
zero_not_above true = refl
zero_not_above false = refl

-- two doubles that are equal, the second above zero, are the same
pub same_above : (x y : Float) → SameValue x y → lt zero_f y ≡ true → x ≡ y
same_above x y (inl e) l = e
same_above x y (inr z) l = absurd (true≢false (sym (rw z.1.1 at l) ∙ zero_not_above z.1.0))
