-- States a loop that tests each place and leaves at the first that fails, as a recursion, and proves the laws that such loops cite.
-- `holds p k i` says that p holds of k places from i on.
use Prim.Native.Nat.{ℕ, zero, suc, ◌+◌, ◌-◌, ◌≤◌, ◌<◌}
use native.Mathlib.Omega.{arith}
use Rattle.std.proofs.Math.Nat.{sub-zero}
use Rattle.std.proofs.Common.{zero-add, add-zero, eq-or-lt_of_le, sym, true≢false}
use Rattle.std.proofs.Math.Logic.{⊎_elim}
use Rattle.std.specs.Prelude.{◌≡◌, Bool, ◌&&◌}
use Rattle.std.proofs.Math.Path.{refl}
use Rattle.std.proofs.Math.Bool.{true, false}

-- two tests that hold together
pub both : (a b : Bool) → (a && b) ≡ true → (a ≡ true) × (b ≡ true)
both true b h = (refl, h)
both false b h = absurd (true≢false (sym h))

regroup : (a b c : Bool) → (a && (b && c)) ≡ (a && b && c)
regroup true b c = refl
regroup false b c = refl

module _ (p : ℕ → Bool) where
  unfoldable pub holds : ℕ → ℕ → Bool
  holds zero i = true
  holds (suc k) i = p i && holds k (i + 1)

  -- the invariant of a loop over the places below n: none of those passed failed
  abbrev pub Passed : ℕ → ℕ → Type 0
  Passed n i = (i ≤ n) × (holds (n - i) i ≡ holds n 0)

  pub passed_start : (n : ℕ) → Passed n 0
  passed_start n = (omega arith, rw sub-zero)

  next : (n i : ℕ) → i < n → Passed n i → (p i && holds (n - (i + 1)) (i + 1)) ≡ holds n 0
  unfolding holds
  next n i h r =
      let e : n - i ≡ suc (n - (i + 1)) = omega arith in
      rw e at r.1

  pub passed_next : (n i : ℕ) → i < n → p i ≡ true → Passed n i → Passed n (i + 1)
  passed_next n i h t r = (omega arith, rw t at (next n i h r))

  pub passed_fails : (n i : ℕ) → i < n → p i ≡ false → Passed n i → false ≡ holds n 0
  passed_fails n i h t r = rw t at (next n i h r)

  pub passed_end : (n i : ℕ) → n ≤ i → Passed n i → true ≡ holds n 0
  unfolding holds
  passed_end n i h r =
      let e : n - i ≡ 0 = omega arith in
      rw e at r.1

  -- what the whole says of each place, and what each place says of the whole
  pub holds_at : (k i : ℕ) → holds k i ≡ true → (j : ℕ) → i ≤ j → j < i + k → p j ≡ true
  unfolding holds
  holds_at zero i h j l u = absurd (omega arith)
  holds_at (suc k) i h j l u =
      let both = both (p i) (holds k (i + 1)) h in
      ⊎_elim (λ e. rw (← e) both.0) (λ lt. holds_at k (i + 1) both.1 j (omega arith) (omega arith)) (eq-or-lt_of_le l)

  pub at_holds : (k i : ℕ) → ((j : ℕ) → i ≤ j → j < i + k → p j ≡ true) → holds k i ≡ true
  unfolding holds
  at_holds zero i h = refl
  at_holds (suc k) i h = rw (h i (omega arith) (omega arith)) (at_holds k (i + 1) (λ j l u. h j (omega arith) (omega arith)))

  -- where the whole does not hold, one place does not
  pub holds_fails : (k i : ℕ) → holds k i ≡ false → (j : ℕ) × (i ≤ j) × (j < i + k) × (p j ≡ false)
  unfolding holds
  holds_fails zero i h = absurd (true≢false h)
  holds_fails (suc k) i h = go (p i) refl h (holds_fails k (i + 1))
    where
      go : (b : Bool) → p i ≡ b → (b && holds k (i + 1)) ≡ false
          → (holds k (i + 1) ≡ false → (j : ℕ) × (i + 1 ≤ j) × (j < i + 1 + k) × (p j ≡ false))
          → (j : ℕ) × (i ≤ j) × (j < i + suc k) × (p j ≡ false)
      go false e f rest = (i, omega arith, omega arith, e)
      go true e f rest = let r = rest f in (r.0, omega (arith, r.1), omega (arith, r.2), r.3)

  -- the places in two parts
  pub holds_split : (k l i : ℕ) → holds (k + l) i ≡ (holds k i && holds l (i + k))
  unfolding holds
  holds_split zero l i = rw (zero-add, add-zero)
  holds_split (suc k) l i =
      let e : suc k + l ≡ suc (k + l) = omega arith in
      let g : i + suc k ≡ i + 1 + k = omega arith in
      rw (e, g, holds_split k l (i + 1)) (regroup (p i) (holds k (i + 1)) (holds l (i + 1 + k)))

-- tests that agree at those places hold alike
module _ (p q : ℕ → Bool) where
  pub holds_same : (k i : ℕ) → ((j : ℕ) → i ≤ j → j < i + k → p j ≡ q j) → holds p k i ≡ holds q k i
  unfolding holds
  holds_same zero i e = refl
  holds_same (suc k) i e = rw (e i (omega arith) (omega arith), holds_same k (i + 1) (λ j l u. e j (omega arith) (omega arith)))
