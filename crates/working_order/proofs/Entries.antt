-- Proves how many entries a working order has, and that each is the number of a heater (01, Tank).
use mathlib.Core.Path.{◌≡◌, refl, ap, ◌∙◌}
use mathlib.Core.Bool.{Bool, true, false, cond}
use mathlib.Core.List.{List, [], ◌∷◌, ◌++◌}
use Prim.Native.Nat.{ℕ, zero, suc, ◌+◌, ◌-◌, ◌≤◌, ◌<◌}
use native.Mathlib.Omega.{arith}
use lib.ListN.{length, get_or, take, replicate}
use lib.Seq.{take_at, get_or-take}
use lib.Ieee.{Float}
use Rattle.numeric.specs.Tabulate.{tabulate, length_tabulate}
use Rattle.working_order.specs.Order.{max_heaters, indices, insert, insertion_sort, comes_before, rising_order}

-- each entry is below n
pub data Below (n : ℕ) : List ℕ → Type 0 where
  none : Below n []
  more : {x : ℕ} {xs : List ℕ} → x < n → Below n xs → Below n (x ∷ xs)

pub below_at : (n : ℕ) (xs : List ℕ) → Below n xs → (k : ℕ) → k < length xs → get_or xs k 0 < n
below_at n [] none k h = absurd (omega arith)
below_at n (x ∷ xs) (more l b) zero h = l
below_at n (x ∷ xs) (more l b) (suc k) h = below_at n xs b k (omega arith)

chosen_length : (x y : ℕ) (ys inserted : List ℕ) (b : Bool) → length inserted ≡ suc (length ys) → length (cond b (x ∷ y ∷ ys) (y ∷ inserted)) ≡ suc (suc (length ys))
chosen_length x y ys inserted true e = refl
chosen_length x y ys inserted false e = ap suc e

chosen_below : (n x y : ℕ) (ys inserted : List ℕ) (b : Bool) → x < n → Below n (y ∷ ys) → Below n (y ∷ inserted) → Below n (cond b (x ∷ y ∷ ys) (y ∷ inserted))
chosen_below n x y ys inserted true h all rest = more h all
chosen_below n x y ys inserted false h all rest = rest

module _ (before : ℕ → ℕ → Bool) where
  pub insert_length : (x : ℕ) (ys : List ℕ) → length (insert before x ys) ≡ suc (length ys)
  unfolding insert
  insert_length x [] = refl
  insert_length x (y ∷ ys) = chosen_length x y ys (insert before x ys) (before x y) (insert_length x ys)

  pub sort_length : (xs : List ℕ) → length (insertion_sort before xs) ≡ length xs
  unfolding insertion_sort
  sort_length [] = refl
  sort_length (x ∷ xs) = insert_length x (insertion_sort before xs) ∙ ap suc (sort_length xs)

  insert_below : (n x : ℕ) (ys : List ℕ) → x < n → Below n ys → Below n (insert before x ys)
  unfolding insert
  insert_below n x [] h none = more h none
  insert_below n x (y ∷ ys) h (more l b) =
      chosen_below n x y ys (insert before x ys) (before x y) h (more l b) (more l (insert_below n x ys h b))

  pub sort_below : (n : ℕ) (xs : List ℕ) → Below n xs → Below n (insertion_sort before xs)
  unfolding insertion_sort
  sort_below n [] none = none
  sort_below n (x ∷ xs) (more l b) = insert_below n x (insertion_sort before xs) l (sort_below n xs b)

pub indices_below : (n k i : ℕ) → i + k ≤ n → Below n (tabulate (λ (j : ℕ). j) k i)
unfolding tabulate
indices_below n zero i h = none
indices_below n (suc k) i h = more {x = i} (omega arith) (indices_below n k (i + 1) (omega arith))

-- the laws: as many entries as heaters, each the number of one of them
pub rising_length : (position : ℕ → Float) (n : ℕ) → length (rising_order position n) ≡ n
unfolding rising_order
rising_length position n = sort_length (comes_before position) (indices n) ∙ length_tabulate (λ (j : ℕ). j) n 0

pub rising_below : (position : ℕ → Float) (n k : ℕ) → k < n → get_or (rising_order position n) k 0 < n
unfolding rising_order
rising_below position n k h =
    let e = rising_length position n in
    below_at n (insertion_sort (comes_before position) (indices n)) (sort_below (comes_before position) n (indices n) (indices_below n n 0 (omega arith))) k (omega arith)

-- ---- an array that holds it, with zeros past it

module _ (position : ℕ → Float) (n : ℕ) (order : List ℕ) (held : order ≡ rising_order position n ++ replicate (max_heaters - n) 0) where
  pub first_entries : take n order ≡ rising_order position n
  first_entries = rw held (take_at (rising_order position n) (replicate (max_heaters - n) 0) n (rising_length position n))

  pub entry : (k : ℕ) → k < n → get_or order k 0 < n
  entry k h = rw (← first_entries, get_or-take n order k 0 h) at (rising_below position n k h)
