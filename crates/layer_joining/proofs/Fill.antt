-- Proves what stands where after the layers from `bottom` to below `end` took one temperature (01, Mix).
use mathlib.Core.Path.{◌≡◌, refl, sym, ap, ◌∙◌, subst}
use mathlib.Core.Logic.{◌⊎◌, ⊎_elim, inl, inr}
use mathlib.Core.Bool.{Bool, true, false, not}
use mathlib.Core.List.{List}
use Prim.Native.Nat.{ℕ, zero, suc, ◌+◌, ◌-◌, ◌≤◌, ◌<◌}
use native.Mathlib.Nat.{eq-or-lt_of_le}
use native.Mathlib.Omega.{arith}
use lib.Dec.{T, ltb, ltb→lt, nltb→le}
use lib.ListN.{length, get_or, set, length-set}
use lib.Seq.{get_or-set_same, get_or-set_other, set-get_or, ext_get_or}
use lib.Ieee.{Float, nan}
use Rattle.numeric.specs.Iterate.{iterate}
use Rattle.mixing.specs.Round.{fill}
use Rattle.mixing.proofs.Keeps.{fill_keeps}

module _ (x : Float) where
  under : (k i : ℕ) (t : List Float) (j : ℕ) → j < i → get_or (iterate (λ (k : ℕ) (t : List Float). set t k x) k i t) j nan ≡ get_or t j nan
  unfolding iterate
  under zero i t j h = refl
  under (suc k) i t j h = under k (i + 1) (set t i x) j (omega arith) ∙ get_or-set_other t i j x nan (omega arith)

  among : (k i : ℕ) (t : List Float) (j : ℕ) → i ≤ j → j < i + k → j < length t → get_or (iterate (λ (k : ℕ) (t : List Float). set t k x) k i t) j nan ≡ x
  unfolding iterate
  among zero i t j l u h = absurd (omega arith)
  among (suc k) i t j l u h =
      ⊎_elim (λ e. under k (i + 1) (set t i x) j (omega arith) ∙ ap (λ (z : ℕ). get_or (set t z x) j nan) e ∙ get_or-set_same t j x nan h)
      (λ q. among k (i + 1) (set t i x) j (omega arith) (omega arith) (subst (λ (z : ℕ). j < z) (sym (length-set t i x)) h)) (eq-or-lt_of_le l)

module _ (bottom end : ℕ) (x : Float) (temps : List Float) where
  pub fill_inside : (j : ℕ) → bottom ≤ j → j < end → j < length temps → get_or (fill bottom end x temps) j nan ≡ x
  fill_inside j l u h = among x (end - bottom) bottom temps j l (omega arith) h

  pub fill_outside : (j : ℕ) → bottom ≤ end → (j < bottom) ⊎ (end ≤ j) → get_or (fill bottom end x temps) j nan ≡ get_or temps j nan
  fill_outside j a h = ⊎_elim (λ u. under x (end - bottom) bottom temps j u) (λ u. (fill_keeps end bottom end x temps a (omega arith)).past j nan u) h

  pub fill_length : bottom ≤ end → length (fill bottom end x temps) ≡ length temps
  fill_length h = (fill_keeps end bottom end x temps h (omega arith)).long

-- a place is among those filled, or it is not
pub inside_or_not : (bottom end j : ℕ) → ((bottom ≤ j) × (j < end)) ⊎ ((j < bottom) ⊎ (end ≤ j))
inside_or_not bottom end j = go (ltb j bottom) (ltb j end) (ltb→lt j bottom) (nltb→le j bottom) (ltb→lt j end) (nltb→le j end)
  where
    go : (a b : Bool) → (T a → j < bottom) → (T (not a) → bottom ≤ j) → (T b → j < end) → (T (not b) → end ≤ j) → ((bottom ≤ j) × (j < end)) ⊎ ((j < bottom) ⊎ (end ≤ j))
    go true b p q r s = inr (inl (p tt))
    go false true p q r s = inl (q tt, r tt)
    go false false p q r s = inr (inr (s tt))

-- a filling over one that it covers
pub fill_over : (bottom end end' : ℕ) (x y : Float) (temps : List Float) → bottom ≤ end → end ≤ end' → fill bottom end' y (fill bottom end x temps) ≡ fill bottom end' y temps
fill_over bottom end end' x y temps a b =
    let once = fill bottom end x temps in
    let l = fill_length bottom end x temps a in
    let l1 = fill_length bottom end' y once (omega arith) in
    let l2 = fill_length bottom end' y temps (omega arith) in
    ext_get_or nan (fill bottom end' y once) (fill bottom end' y temps) (l1 ∙ l ∙ sym l2)
    (λ j h.
    ⊎_elim (λ w. fill_inside bottom end' y once j w.0 w.1 (omega (arith, l1, h)) ∙ sym (fill_inside bottom end' y temps j w.0 w.1 (omega (arith, l1, l, h))))
    (λ w. fill_outside bottom end' y once j (omega arith) w ∙ fill_outside bottom end x temps j a (⊎_elim (λ u. inl u) (λ u. inr (omega arith)) w) ∙ sym (fill_outside bottom end' y temps j (omega arith) w))
    (inside_or_not bottom end' j))

-- one layer that takes what it has
pub fill_own : (i : ℕ) (temps : List Float) → fill i (i + 1) (get_or temps i nan) temps ≡ temps
unfolding iterate
fill_own i temps = let e : i + 1 - i ≡ 1 = omega arith in rw e (set-get_or temps i nan)
