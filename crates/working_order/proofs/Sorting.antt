-- Proves the insertions one after another, from the last heater to the first (01, Tank): what the loop over the heaters cites.
use mathlib.Core.Path.{◌≡◌, ap, sym, ◌∙◌}
use mathlib.Core.Bool.{Bool}
use mathlib.Core.List.{List, ◌++◌, append_assoc}
use Prim.Native.Nat.{ℕ, suc, ◌+◌, ◌-◌, ◌≤◌, ◌<◌}
use native.Mathlib.Nat.{le_refl, sub-zero}
use native.Mathlib.Omega.{arith}
use lib.ListN.{length, take, drop, replicate, length-append, length-drop, length-replicate, replicate-append-replicate, take-append-drop}
use lib.Seq.{slice, slice_empty, length-take-le, length-slice, take_at, drop_at, get_or-drop, get_or-take}
use Rattle.numeric.specs.Tabulate.{tabulate, length_tabulate}
use Rattle.working_order.specs.Order.{max_heaters, indices, insert, insertion_sort, NumbersFrom, with_heater}
use Rattle.working_order.proofs.Entries.{below_at, insert_length, sort_length, sort_below, indices_below}

zeros_left : (n : ℕ) → n ≤ max_heaters → drop {A = ℕ} n (replicate max_heaters 0) ≡ replicate (max_heaters - n) 0
zeros_left n l =
    let e : n + (max_heaters - n) ≡ max_heaters = omega arith in
    ap (λ (k : ℕ). drop {A = ℕ} n (replicate k 0)) (sym e)
    ∙ ap (drop {A = ℕ} n) (sym (replicate-append-replicate n (max_heaters - n) 0))
    ∙ drop_at (replicate n 0) (replicate (max_heaters - n) 0) n (length-replicate {A = ℕ} n 0)

module _ (before : ℕ → ℕ → Bool) (n : ℕ) where
  -- the heaters from x on
  abbrev from : ℕ → List ℕ
  from x = tabulate (λ (k : ℕ). k) (n - x) x

  -- the places from x to below n hold the heaters from x on, in order, and those past them zeros
  pub record Sorted (x : ℕ) (order : List ℕ) : Type 0 where
    pub high : x ≤ n
    pub long : length order ≡ max_heaters
    pub same : slice x n order ≡ insertion_sort before (from x)
    pub past : drop n order ≡ replicate (max_heaters - n) 0

  pub sorted_start : n ≤ max_heaters → Sorted n (replicate max_heaters 0)
  unfolding tabulate insertion_sort
  sorted_start limit =
      let e : n - n ≡ 0 = omega arith in
      record { high = le_refl n; long = length-replicate {A = ℕ} max_heaters 0; same = rw (slice_empty {A = ℕ} n (replicate max_heaters 0), e); past = zeros_left n limit }

  pub sorted_numbers : (x : ℕ) (order : List ℕ) → Sorted x order → NumbersFrom x n order
  sorted_numbers x order r k h u =
      let e : x + (k - x) ≡ k = omega arith in
      let l : length (insertion_sort before (from x)) ≡ n - x = sort_length before (from x) ∙ length_tabulate (λ (j : ℕ). j) (n - x) x in
      let b = below_at n (insertion_sort before (from x)) (sort_below before n (from x) (indices_below n (n - x) x (omega arith))) (k - x) (omega arith) in
      rw (← r.same, get_or-drop x (take n order) (k - x) 0, e, get_or-take n order k 0 u) at b

  module _ (limit : n ≤ max_heaters) (x : ℕ) (order : List ℕ) (h : 0 < x) (r : Sorted x order) where
    -- what stands in the three parts of the array with x - 1 at its place
    abbrev placed : List ℕ
    placed = insert before (x - 1) (slice (x - 1 + 1) n order)

    low_long : length (take (x - 1) order) ≡ x - 1
    low_long = length-take-le (x - 1) order (omega (arith, r.long, r.high))

    placed_long : length placed ≡ n - (x - 1)
    placed_long = insert_length before (x - 1) (slice (x - 1 + 1) n order) ∙ rw (length-slice (x - 1 + 1) n order (omega (arith, r.long))) (omega (arith, r.high))

    both_long : length (take (x - 1) order ++ placed) ≡ n
    both_long = length-append (take (x - 1) order) placed ∙ omega (arith, low_long, placed_long, r.high)

    parts : with_heater before n (x - 1) order ≡ (take (x - 1) order ++ placed) ++ drop n order
    parts = sym (append_assoc (take (x - 1) order) placed (drop n order))

    pub sorted_next : (after : List ℕ) → after ≡ with_heater before n (x - 1) order → Sorted (x - 1) after
    unfolding tabulate insertion_sort
    sorted_next after s =
        let e : x - 1 + 1 ≡ x = omega arith in
        let d : n - (x - 1) ≡ suc (n - x) = omega (arith, r.high) in
        let first : take n after ≡ take (x - 1) order ++ placed = rw (s, parts) (take_at (take (x - 1) order ++ placed) (drop n order) n both_long) in
        let rest : drop n after ≡ drop n order = rw (s, parts) (drop_at (take (x - 1) order ++ placed) (drop n order) n both_long) in
        record {
          high = omega (arith, r.high);
          long = ap length (s ∙ parts) ∙ (length-append (take (x - 1) order ++ placed) (drop n order) ∙ omega (arith, both_long, length-drop n order, r.long));
          same = rw (first, drop_at (take (x - 1) order) placed (x - 1) low_long, d, e, r.same);
          past = rest ∙ r.past;
        }

  pub sorted_end : (x : ℕ) (order : List ℕ) → x ≤ 0 → Sorted x order → order ≡ insertion_sort before (indices n) ++ replicate (max_heaters - n) 0
  sorted_end x order h r =
      let e : x ≡ 0 = omega arith in
      let first : take n order ≡ insertion_sort before (indices n) = rw (e, sub-zero) at r.same in
      rw (← first, ← r.past) (sym (take-append-drop n order))
