-- States the list of a function's values at k indices from i on: how the specifications write 'over all layers'; and what stands at each of its places.
use Prim.Native.Nat.{ℕ, zero, suc, ◌+◌, ◌≤◌, ◌<◌}
use Rattle.std.proofs.Common.{le_of_suc-le-suc, not-suc-le-zero, arith, ◌∙◌}
use Rattle.std.specs.Prelude.{◌≡◌, List, [], ◌∷◌, length, get_or}
use Rattle.std.proofs.Math.Path.{refl, ap}

module _ {A : Type 0} (g : ℕ → A) where
  unfoldable pub tabulate : ℕ → ℕ → List A
  tabulate zero i = []
  tabulate (suc k) i = g i ∷ tabulate k (i + 1)

  pub length_tabulate : (k i : ℕ) → length (tabulate k i) ≡ k
  unfolding tabulate
  length_tabulate zero i = refl
  length_tabulate (suc k) i = ap suc (length_tabulate k (i + 1))

  at_tabulate_from : (k i h : ℕ) (d : A) → h < k → get_or (tabulate k i) h d ≡ g (i + h)
  unfolding tabulate
  at_tabulate_from zero i h d l = absurd (not-suc-le-zero l)
  at_tabulate_from (suc k) i zero d l = ap g (omega arith)
  at_tabulate_from (suc k) i (suc h) d l = at_tabulate_from k (i + 1) h d (le_of_suc-le-suc l) ∙ ap g (omega arith)

  pub at_tabulate : (k h : ℕ) (d : A) → h < k → get_or (tabulate k 0) h d ≡ g h
  at_tabulate k h d l = at_tabulate_from k 0 h d l ∙ ap g (omega arith)

  pub past_tabulate : (k i h : ℕ) (d : A) → k ≤ h → get_or (tabulate k i) h d ≡ d
  unfolding tabulate
  past_tabulate zero i h d l = refl
  past_tabulate (suc k) i zero d l = absurd (not-suc-le-zero l)
  past_tabulate (suc k) i (suc h) d l = past_tabulate k (i + 1) h d (le_of_suc-le-suc l)

-- functions that agree at those indices have one list
module _ {A : Type 0} (g h : ℕ → A) where
  pub tabulate_same : (k i : ℕ) → ((j : ℕ) → i ≤ j → j < i + k → g j ≡ h j) → tabulate g k i ≡ tabulate h k i
  unfolding tabulate
  tabulate_same zero i e = refl
  tabulate_same (suc k) i e = rw (e i (omega arith) (omega arith), tabulate_same k (i + 1) (λ j l u. e j (omega arith) (omega arith)))
