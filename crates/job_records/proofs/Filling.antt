-- Proves the laws of an array whose places are filled from the first up (01, Job: volumes and settings): one place more, which loops cite, and a function of each place.
use Prim.Native.Nat.{ℕ, zero, suc, ◌+◌, ◌<◌}
use native.Mathlib.Omega.{arith}
use native.Mathlib.Nat.{add-zero, zero-add}
use native.Mathlib.Numerals.{add-one}
use mathlib.Core.Path.{◌≡◌, refl}
use mathlib.Core.List.{List, [], ◌∷◌, ◌++◌, append_assoc, map, map-append}
use lib.ListN.{length, get_or, set, drop}
use lib.Seq.{drop-cons, set_at}
use Rattle.numeric.specs.Tabulate.{tabulate, length_tabulate}
use Rattle.job_records.specs.Fields.{filled}

module _ {A : Type 0} (g : ℕ → A) where
  tabulate_more : (k i : ℕ) → tabulate g (suc k) i ≡ tabulate g k i ++ (g (i + k) ∷ [])
  unfolding tabulate
  tabulate_more zero i = rw add-zero
  tabulate_more (suc k) i =
      let e : i + suc k ≡ i + 1 + k = omega arith in
      rw (e, tabulate_more k (i + 1))

  pub filled_next : (d : A) (k : ℕ) (xs : List A) → k < length xs → set (filled g k xs) k (g k) ≡ filled g (k + 1) xs
  filled_next d k xs h =
      rw (drop-cons xs k d h, set_at (tabulate g k 0) (get_or xs k d) (drop (suc k) xs) (g k) k (length_tabulate g k 0), add-one, tabulate_more k 0, append_assoc, zero-add)

module _ {A B : Type 0} (f : A → B) where
  map_tabulate : (g : ℕ → A) (k i : ℕ) → map f (tabulate g k i) ≡ tabulate (λ (j : ℕ). f (g j)) k i
  unfolding tabulate
  map_tabulate g zero i = refl
  map_tabulate g (suc k) i = rw (map_tabulate g k (i + 1))

  map_drop : (n : ℕ) (xs : List A) → map f (drop n xs) ≡ drop n (map f xs)
  map_drop zero xs = refl
  map_drop (suc n) [] = refl
  map_drop (suc n) (x ∷ xs) = map_drop n xs

  pub map_filled : (g : ℕ → A) (n : ℕ) (xs : List A) → map f (filled g n xs) ≡ filled (λ (j : ℕ). f (g j)) n (map f xs)
  map_filled g n xs = rw (map-append f (tabulate g n 0) (drop n xs), map_tabulate g n 0, map_drop n xs)
