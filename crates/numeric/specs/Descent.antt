-- States a loop that counts down by one and stops where a test says so, as a recursion, and proves the laws that such loops cite.
-- `descend n s` works the places below n from the top, where the place i takes s to `f i s`; it ends at the first that `stop` finds.
use Prim.Native.Nat.{ℕ, zero, suc, ◌-◌, ◌≤◌, ◌<◌}
use native.Mathlib.Omega.{arith}
use Rattle.std.proofs.Math.Numerals.{sub-one}
use Rattle.std.specs.Prelude.{◌≡◌, refl, Bool, true, false, cond}
use Rattle.std.proofs.Common.{sym, ◌∙◌}

-- what both hold of, the one that is chosen has
pub chosen : {S : Type 0} (P : S → Type 0) (b : Bool) (x y : S) → P x → P y → P (cond b x y)
chosen P true x y p q = p
chosen P false x y p q = q

module _ {S : Type 0} (stop : ℕ → S → Bool) (f : ℕ → S → S) where
  unfoldable pub descend : ℕ → S → S
  descend zero s = s
  descend (suc i) s = cond (stop i s) s (descend i (f i s))

  -- the invariant of a loop from n down: what is left to do from here gives what the whole gives
  abbrev pub Descent : ℕ → S → ℕ → S → Type 0
  Descent n s₀ i s = (i ≤ n) × (descend i s ≡ descend n s₀)

  pub descent_start : (n : ℕ) (s : S) → Descent n s n s
  descent_start n s = (omega arith, refl)

  step : (i : ℕ) (s : S) → 0 < i → descend i s ≡ cond (stop (i - 1) s) s (descend (i - 1) (f (i - 1) s))
  unfolding descend
  step zero s h = absurd (omega arith)
  step (suc i) s h = rw sub-one

  pub descent_next : (n : ℕ) (s₀ : S) (i : ℕ) (s : S) → 0 < i → stop (i - 1) s ≡ false → Descent n s₀ i s
      → Descent n s₀ (i - 1) (f (i - 1) s)
  descent_next n s₀ i s h t r = (omega arith, (rw t at (sym (step i s h))) ∙ r.1)

  pub descent_stop : (n : ℕ) (s₀ : S) (i : ℕ) (s : S) → 0 < i → stop (i - 1) s ≡ true → Descent n s₀ i s → s ≡ descend n s₀
  descent_stop n s₀ i s h t r = (rw t at (sym (step i s h))) ∙ r.1

  pub descent_end : (n : ℕ) (s₀ : S) (i : ℕ) (s : S) → i ≤ 0 → Descent n s₀ i s → s ≡ descend n s₀
  unfolding descend
  descent_end n s₀ i s h r =
      let e : i ≡ 0 = omega arith in
      rw e at r.1

  -- what each place worked keeps, the whole keeps
  pub descend_keeps : (P : S → Type 0) (n : ℕ) → ((i : ℕ) (s : S) → i < n → P s → P (f i s))
      → (i : ℕ) (s : S) → i ≤ n → P s → P (descend i s)
  unfolding descend
  descend_keeps P n h zero s l p = p
  descend_keeps P n h (suc i) s l p =
      chosen P (stop i s) s (descend i (f i s)) p (descend_keeps P n h i (f i s) (omega arith) (h i s (omega arith) p))
