-- Proves when a mixing is accepted (01, Mix and refusal 9): exactly when the layers are in nondecreasing order after some round from 1 to the last that may
-- run, with the least such number as its rounds; and that it is refused exactly when none of those rounds leaves them in order.
use mathlib.Core.Bool.{Bool, true, false, not, true≢false}
use mathlib.Core.Logic.{◌↔◌, ⊎_elim}
use mathlib.Core.Path.{◌≡◌, refl, sym, ap, ◌∙◌}
use mathlib.Core.List.{List}
use Prim.Native.Nat.{ℕ, zero, suc, ◌+◌, ◌-◌, ◌≤◌, ◌<◌}
use native.Mathlib.Nat.{le-suc_iff}
use native.Mathlib.Numerals.{add-one}
use native.Mathlib.Omega.{arith}
use lib.Dec.{T, ltb, ltb→lt, nltb→le}
use lib.Ieee.{Float, nan, le}
use lib.ListN.{get_or}
use Rattle.numeric.specs.Holds.{holds_at}
use Rattle.mixing.specs.Limits.{max_rounds}
use Rattle.mixing.specs.Rearrange.{Mixing, sorted, unsorted, rises, is_sorted, after_rounds, rounds, rearrange}
use Rattle.mixing.proofs.Rounds.{rounds_sorted}

-- 01's number: of at most 32 layers a mixing may run 64 rounds
pub limit_64 : (n : ℕ) → n ≤ 32 → max_rounds n ≡ 64
limit_64 n h = refl

-- k is the least round from 1 on after which the layers are in order, it may run, and `us` are the layers it leaves
pub record LeastRound (n : ℕ) (vol temps us : List Float) (k : ℕ) : Type 0 where
  pub one : 1 ≤ k
  pub limit : k ≤ max_rounds n
  pub layers : us ≡ after_rounds k n vol temps
  pub order : is_sorted n us ≡ true
  pub least : (j : ℕ) → 1 ≤ j → j < k → is_sorted n (after_rounds j n vol temps) ≡ false

-- none of the rounds that may run leaves the layers in order
abbrev pub NoRound : ℕ → List Float → List Float → Type 0
NoRound n vol temps = (j : ℕ) → 1 ≤ j → j ≤ max_rounds n → is_sorted n (after_rounds j n vol temps) ≡ false

module _ (n : ℕ) (vol temps : List Float) where
  data Outcome : Mixing → Type 0 where
    accepted : {m : Mixing} (us : List Float) (k : ℕ) → m ≡ sorted us k → LeastRound n vol temps us k → Outcome m
    refused : {m : Mixing} → m ≡ unsorted → NoRound n vol temps → Outcome m

  -- none of the first k rounds gave order
  abbrev NoneTo : ℕ → Type 0
  NoneTo k = (j : ℕ) → 1 ≤ j → j ≤ k → is_sorted n (after_rounds j n vol temps) ≡ false

  longer : (k : ℕ) → NoneTo k → is_sorted n (after_rounds (suc k) n vol temps) ≡ false → NoneTo (suc k)
  longer k h s j l u = ⊎_elim (λ (v : j ≤ k). h j l v) (λ (e : j ≡ suc k). rw e s) (le-suc_iff.0 u)

  -- one more round, and then those that are left, if it gave no order
  next_round : (left k : ℕ) → suc k ≤ max_rounds n → NoneTo k → (NoneTo (suc k) → Outcome (rounds left false (suc k) n vol (after_rounds (suc k) n vol temps))) → (b : Bool) → is_sorted n (after_rounds (suc k) n vol temps) ≡ b → Outcome (rounds left b (suc k) n vol (after_rounds (suc k) n vol temps))
  next_round left k l h next true s =
      accepted (after_rounds (suc k) n vol temps) (suc k) (rounds_sorted left (suc k) n vol (after_rounds (suc k) n vol temps))
      (record { one = omega arith; limit = l; layers = refl; order = s; least = λ j a b. h j a (omega arith) })
  next_round left k l h next false s = next (longer k h s)

  outcome : (left k : ℕ) → k + left ≡ max_rounds n → NoneTo k → Outcome (rounds left false k n vol (after_rounds k n vol temps))
  unfolding rounds after_rounds
  outcome zero k e h = refused refl (λ j l u. h j l (omega arith))
  outcome (suc left) k e h = rw add-one (next_round left k (omega arith) h (λ g. outcome left (suc k) (omega arith) g) (is_sorted n (after_rounds (suc k) n vol temps)) refl)

  -- of two least rounds each is at least the other
  no_later : (us vs : List Float) (j k : ℕ) → LeastRound n vol temps us j → LeastRound n vol temps vs k → k ≤ j
  no_later us vs j k a b = go (ltb j k) (ltb→lt j k) (nltb→le j k)
    where
      go : (t : Bool) → (T t → j < k) → (T (not t) → k ≤ j) → k ≤ j
      go true l g = absurd (true≢false (sym a.order ∙ (ap (is_sorted n) a.layers ∙ b.least j a.one (l tt))))
      go false l g = g tt

  worked : Outcome (rearrange n vol temps)
  unfolding rearrange after_rounds
  worked = outcome (max_rounds n) 0 (omega arith) (λ j l u. absurd (omega arith))

  to_least : (us : List Float) (k : ℕ) → Outcome (rearrange n vol temps) → rearrange n vol temps ≡ sorted us k → LeastRound n vol temps us k
  to_least us k (accepted vs j e r) h =
      let same : us ≡ vs = cc in
      let rounds-same : k ≡ j = cc in
      rw (same, rounds-same) r
  to_least us k (refused e r) h = let z : ◌≡◌ {A = ℕ} 0 1 = cc in absurd (omega arith)

  from_least : (us : List Float) (k : ℕ) → Outcome (rearrange n vol temps) → LeastRound n vol temps us k → rearrange n vol temps ≡ sorted us k
  from_least us k (accepted vs j e r) a =
      let x = no_later us vs k j a r in
      let y = no_later vs us j k r a in
      let i : j ≡ k = omega arith in
      let v : vs ≡ us = r.layers ∙ (rw i (sym a.layers)) in
      rw (e, v, i)
  from_least us k (refused e r) a = absurd (true≢false (sym a.order ∙ (ap (is_sorted n) a.layers ∙ r k a.one a.limit)))

  to_none : Outcome (rearrange n vol temps) → rearrange n vol temps ≡ unsorted → NoRound n vol temps
  to_none (accepted us k e r) h = let z : ◌≡◌ {A = ℕ} 0 1 = cc in absurd (omega arith)
  to_none (refused e r) h = r

  from_none : Outcome (rearrange n vol temps) → NoRound n vol temps → rearrange n vol temps ≡ unsorted
  from_none (accepted us k e r) a = absurd (true≢false (sym r.order ∙ (ap (is_sorted n) r.layers ∙ a k r.one r.limit)))
  from_none (refused e r) a = e

-- the laws: when it is accepted, with which rounds and layers; when it is refused; and that accepted layers are each at most the one above
module _ (n : ℕ) (vol temps : List Float) where
  pub accepted_iff : (us : List Float) (k : ℕ) → (rearrange n vol temps ≡ sorted us k) ↔ LeastRound n vol temps us k
  accepted_iff us k = (to_least n vol temps us k (worked n vol temps), from_least n vol temps us k (worked n vol temps))

  pub refused_iff : (rearrange n vol temps ≡ unsorted) ↔ NoRound n vol temps
  refused_iff = (to_none n vol temps (worked n vol temps), from_none n vol temps (worked n vol temps))

  pub accepted_rises : (us : List Float) (k : ℕ) → rearrange n vol temps ≡ sorted us k → (i : ℕ) → i + 1 < n → le (get_or us i nan) (get_or us (i + 1) nan) ≡ true
  unfolding is_sorted
  accepted_rises us k e i h = holds_at (rises us) (n - 1) 0 ((accepted_iff us k).0 e).order i (omega arith) (omega arith)
