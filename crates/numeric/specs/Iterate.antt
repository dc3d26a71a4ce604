-- States a loop that counts up by one as a recursion, and proves the laws that loops cite: the loop equals it, and what each pass keeps the whole keeps.
-- `iterate f k i s` is the state after k passes from i on, where the pass at i takes s to `f i s`.
use Prim.Native.Nat.{ℕ, zero, suc, ◌+◌, ◌-◌, ◌≤◌, ◌<◌}
use native.Mathlib.Omega.{arith}
use Rattle.std.proofs.Math.Nat.{sub-zero, add-zero}
use Rattle.std.proofs.Common.{zero-add}
use Rattle.std.specs.Prelude.{◌≡◌, refl}

module _ {S : Type 0} (f : ℕ → S → S) where
  unfoldable pub iterate : ℕ → ℕ → S → S
  iterate zero i s = s
  iterate (suc k) i s = iterate k (i + 1) (f i s)

  -- the invariant of a loop from i₀ up to n: what is left to do from here gives what the whole gives
  abbrev pub Span : ℕ → ℕ → S → ℕ → S → Type 0
  Span n i₀ s₀ i s = (i ≤ n) × (iterate (n - i) i s ≡ iterate (n - i₀) i₀ s₀)

  pub span_start : (n i : ℕ) (s : S) → i ≤ n → Span n i s i s
  span_start n i s h = (h, refl)

  pub span_next : (n i₀ : ℕ) (s₀ : S) (i : ℕ) (s : S) → i < n → Span n i₀ s₀ i s → Span n i₀ s₀ (i + 1) (f i s)
  unfolding iterate
  span_next n i₀ s₀ i s h r =
      let e : n - i ≡ suc (n - (i + 1)) = omega arith in
      (omega arith, rw e at r.1)

  pub span_end : (n i₀ : ℕ) (s₀ : S) (i : ℕ) (s : S) → n ≤ i → Span n i₀ s₀ i s → s ≡ iterate (n - i₀) i₀ s₀
  unfolding iterate
  span_end n i₀ s₀ i s h r =
      let e : n - i ≡ 0 = omega arith in
      rw e at r.1

  -- the same for a loop from 0
  abbrev pub Rest : ℕ → S → ℕ → S → Type 0
  Rest n s₀ i s = (i ≤ n) × (iterate (n - i) i s ≡ iterate n 0 s₀)

  pub rest_start : (n : ℕ) (s : S) → Rest n s 0 s
  rest_start n s = (omega arith, rw sub-zero)

  pub rest_next : (n : ℕ) (s₀ : S) (i : ℕ) (s : S) → i < n → Rest n s₀ i s → Rest n s₀ (i + 1) (f i s)
  unfolding iterate
  rest_next n s₀ i s h r =
      let e : n - i ≡ suc (n - (i + 1)) = omega arith in
      (omega arith, rw e at r.1)

  pub rest_end : (n : ℕ) (s₀ : S) (i : ℕ) (s : S) → n ≤ i → Rest n s₀ i s → s ≡ iterate n 0 s₀
  unfolding iterate
  rest_end n s₀ i s h r =
      let e : n - i ≡ 0 = omega arith in
      rw e at r.1

  -- what each pass below n keeps, the whole keeps
  pub iterate_keep : (P : S → Type 0) (n : ℕ) → ((i : ℕ) (s : S) → i < n → P s → P (f i s))
      → (k i : ℕ) (s : S) → i + k ≤ n → P s → P (iterate k i s)
  unfolding iterate
  iterate_keep P n h zero i s l p = p
  iterate_keep P n h (suc k) i s l p = iterate_keep P n h k (i + 1) (f i s) (omega arith) (h i s (omega arith) p)

  -- what holds of i and s, and after a pass of i + 1 and the next state, holds at the end
  pub iterate_reach : (P : ℕ → S → Type 0) (n : ℕ) → ((i : ℕ) (s : S) → i < n → P i s → P (i + 1) (f i s))
      → (k i : ℕ) (s : S) → i + k ≤ n → P i s
      → P (i + k) (iterate k i s)
  unfolding iterate
  iterate_reach P n h zero i s l p = rw add-zero p
  iterate_reach P n h (suc k) i s l p =
      let e : i + suc k ≡ i + 1 + k = omega arith in
      rw e (iterate_reach P n h k (i + 1) (f i s) (omega arith) (h i s (omega arith) p))

  -- one pass more, at the end
  pub iterate_more : (k i : ℕ) (s : S) → iterate (k + 1) i s ≡ f (i + k) (iterate k i s)
  unfolding iterate
  iterate_more zero i s = rw add-zero
  iterate_more (suc k) i s =
      let e : suc k + 1 ≡ suc (k + 1) = omega arith in
      let g : i + suc k ≡ i + 1 + k = omega arith in
      rw (e, g) (iterate_more k (i + 1) (f i s))

  -- passes in two parts
  pub iterate_split : (k l i : ℕ) (s : S) → iterate (k + l) i s ≡ iterate l (i + k) (iterate k i s)
  unfolding iterate
  iterate_split zero l i s = rw (zero-add, add-zero)
  iterate_split (suc k) l i s =
      let e : suc k + l ≡ suc (k + l) = omega arith in
      let g : i + suc k ≡ i + 1 + k = omega arith in
      rw (e, g) (iterate_split k l (i + 1) (f i s))

-- two loops side by side: what each pair of passes below n keeps between their states, the whole loops keep
module _ {S U : Type 0} (f : ℕ → S → S) (g : ℕ → U → U) where
  pub iterate_beside : (R : ℕ → S → U → Type 0) (n : ℕ) → ((i : ℕ) (s : S) (u : U) → i < n → R i s u → R (i + 1) (f i s) (g i u))
      → (k i : ℕ) (s : S) (u : U) → i + k ≤ n → R i s u → R (i + k) (iterate f k i s) (iterate g k i u)
  unfolding iterate
  iterate_beside R n h zero i s u l r = rw add-zero r
  iterate_beside R n h (suc k) i s u l r =
      let e : i + suc k ≡ i + 1 + k = omega arith in
      rw e (iterate_beside R n h k (i + 1) (f i s) (g i u) (omega arith) (h i s u (omega arith) r))
