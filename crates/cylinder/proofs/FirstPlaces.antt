-- Proves that a test of each of a list's first places, as a chain of iterators makes it, is that of each place below so many.
use Prim.Native.Nat.{ℕ, zero, suc, ◌+◌, ◌≤◌}
use native.Mathlib.Omega.{arith}
use Rattle.std.proofs.Common.{zero-add}
use mathlib.Core.Path.{◌≡◌, sym, ap, ◌∙◌}
use mathlib.Core.Bool.{Bool, ◌&&◌}
use mathlib.Core.List.{List}
use lib.ListN.{get_or, length, take}
use Rattle.std.proofs.Math.Bool.{and-true}
use Rattle.std.specs.List.{list_all}
use Rattle.std.proofs.lemmas.List.Folds.{list_all_more}
use Rattle.numeric.specs.Holds.{holds, holds_split}

module _ {A : Type 0} (p : A → Bool) (xs : List A) (d : A) where
  abbrev at : ℕ → Bool
  at k = p (get_or xs k d)

  one_more : (i : ℕ) → holds at (suc i) 0 ≡ (holds at i 0 && p (get_or xs i d))
  unfolding holds
  one_more i =
      let e : suc i ≡ i + 1 = omega arith in
      ap (λ k. holds at k 0) e ∙ holds_split at i 1 0 ∙ rw (zero-add i, and-true (p (get_or xs i d)))

  pub all_first : (n : ℕ) → n ≤ length xs → list_all p (take n xs) ≡ holds (λ k. p (get_or xs k d)) n 0
  unfolding holds
  all_first zero h = search
  all_first (suc i) h =
      let e : suc i ≡ i + 1 = omega arith in
      ap (λ k. list_all p (take k xs)) e ∙ list_all_more p xs i d (omega arith) ∙ ap (λ b. b && p (get_or xs i d)) (all_first i (omega arith)) ∙ sym (one_more i)
