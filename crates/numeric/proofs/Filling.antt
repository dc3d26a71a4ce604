-- Proves the laws that loops cite which fill an array's places from the first up: with one value, or with what stands in a list (01, Tank: layers at the initial
-- temperature, heaters as given).
use mathlib.Core.Path.{◌≡◌, refl, ap}
use mathlib.Core.List.{List, ◌∷◌, append-nil}
use Prim.Native.Nat.{ℕ, zero, suc, ◌+◌, ◌<◌, ◌≤◌}
use native.Mathlib.Nat.{le_of_suc-le-suc, not-suc-le-zero}
use native.Mathlib.Omega.{arith}
use lib.ListN.{length, set, take, replicate, length-replicate, get_or-replicate, drop_of_length-le}
use lib.Seq.{take_all}
use Rattle.numeric.specs.Tabulate.{tabulate, length_tabulate, at_tabulate}
use Rattle.numeric.specs.Copy.{copied, copied_next}

module _ {A : Type 0} where
  pub take_replicate : (n m : ℕ) (x : A) → n ≤ m → take n (replicate m x) ≡ replicate n x
  take_replicate zero m x l = refl
  take_replicate (suc n) zero x l = absurd (not-suc-le-zero l)
  take_replicate (suc n) (suc m) x l = ap (λ (ys : List A). x ∷ ys) (take_replicate n m x (le_of_suc-le-suc l))

  -- the first k of n places at x
  pub filled_next : (n k : ℕ) (x d : A) (ys : List A) → k < n → k < length ys → set (copied k (replicate n x) ys) k x ≡ copied (k + 1) (replicate n x) ys
  filled_next n k x d ys l m = rw (get_or-replicate n k x d l) at (copied_next d k (replicate n x) ys (rw (length-replicate n x) l) m)

  -- the first k of n places from g
  pub tabulated_next : (g : ℕ → A) (n k : ℕ) (d : A) (ys : List A) → k < n → k < length ys → set (copied k (tabulate g n 0) ys) k (g k) ≡ copied (k + 1) (tabulate g n 0) ys
  tabulated_next g n k d ys l m = rw (at_tabulate g n k d l) at (copied_next d k (tabulate g n 0) ys (rw (length_tabulate g n 0) l) m)

  pub tabulated_end : (g : ℕ → A) (n : ℕ) (ys : List A) → length ys ≡ n → copied n (tabulate g n 0) ys ≡ tabulate g n 0
  tabulated_end g n ys e =
      let whole = length_tabulate g n 0 in
      let first : length (tabulate g n 0) ≤ n = omega arith in
      let rest : length ys ≤ n = omega arith in
      rw (take_all n (tabulate g n 0) first, drop_of_length-le ys rest) (append-nil (tabulate g n 0))
