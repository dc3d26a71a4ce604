-- Proves that a working order depends only on the positions of the heaters that there are (01, Tank): what stands past them does not bear on it.
use mathlib.Core.Path.{◌≡◌, refl, ap, ◌∙◌}
use mathlib.Core.Bool.{Bool}
use mathlib.Core.List.{List, [], ◌∷◌}
use Prim.Native.Nat.{ℕ, ◌<◌}
use native.Mathlib.Omega.{arith}
use lib.Ieee.{Float}
use Rattle.working_order.specs.Order.{indices, insert, insertion_sort, comes_before, rising_order}
use Rattle.working_order.proofs.Entries.{Below, none, more, sort_below, indices_below}

module _ (n : ℕ) (before other : ℕ → ℕ → Bool) (same : (i j : ℕ) → i < n → j < n → before i j ≡ other i j) where
  insert_same : (x : ℕ) (ys : List ℕ) → x < n → Below n ys → insert before x ys ≡ insert other x ys
  unfolding insert
  insert_same x [] h none = refl
  insert_same x (y ∷ ys) h (more l b) = rw (same x y h l, insert_same x ys h b)

  pub sort_same : (xs : List ℕ) → Below n xs → insertion_sort before xs ≡ insertion_sort other xs
  unfolding insertion_sort
  sort_same [] none = refl
  sort_same (x ∷ xs) (more l b) =
      insert_same x (insertion_sort before xs) l (sort_below before n xs b) ∙ ap (insert other x) (sort_same xs b)

-- the law: where the positions below n are the same, so is the order
pub rising_same : (position other : ℕ → Float) (n : ℕ) → ((i : ℕ) → i < n → position i ≡ other i) → rising_order position n ≡ rising_order other n
unfolding rising_order
rising_same position other n same =
    sort_same n (comes_before position) (comes_before other) (λ i j h k. rw (same i h, same j k)) (indices n) (indices_below n n 0 (omega arith))
