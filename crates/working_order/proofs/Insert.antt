-- Proves one insertion on an array, place by place (01, Tank): what the loop over the places cites.
use mathlib.Core.Path.{◌≡◌, ap, sym, ◌∙◌}
use mathlib.Core.Bool.{Bool, true, false}
use mathlib.Core.List.{List, [], ◌∷◌, ◌++◌, append_assoc}
use Prim.Native.Nat.{ℕ, ◌+◌, ◌≤◌, ◌<◌}
use native.Mathlib.Numerals.{add-one}
use native.Mathlib.Omega.{arith}
use lib.ListN.{length, get_or, take, drop, set, length-set, take-append-drop}
use lib.Seq.{slice, slice_empty, slice-cons, length-take-le, take-suc-set, take-set-lt, drop-set-lt, drop-append-le, set_split, get_or-set_other}
use Rattle.working_order.specs.Order.{max_heaters, insert, NumbersFrom, with_heater}

-- the places from m on are those from m to below n, and those from n on
parted : (m n : ℕ) (order : List ℕ) → m ≤ n → n ≤ length order → drop m order ≡ slice m n order ++ drop n order
parted m n order h l =
    let e : length (take n order) ≡ n = length-take-le n order l in
    ap (drop m) (sym (take-append-drop n order)) ∙ drop-append-le m (take n order) (drop n order) (omega arith)

module _ (before : ℕ → ℕ → Bool) (n x : ℕ) where
  -- those worked before x have moved down and stand below the place j, the others are left in those from j + 1 on, and inserting x among these gives the whole
  pub record Inserting (first : List ℕ) (j : ℕ) (order : List ℕ) : Type 0 where
    pub low : x ≤ j
    pub high : j < n
    pub long : length order ≡ max_heaters
    pub numbers : NumbersFrom (j + 1) n order
    pub same : take j order ++ (insert before x (slice (j + 1) n order) ++ drop n order) ≡ with_heater before n x first

  module _ (first : List ℕ) (j : ℕ) (order : List ℕ) (limit : n ≤ max_heaters) (r : Inserting first j order) where
    next : j + 1 < n → slice (j + 1) n order ≡ get_or order (j + 1) 0 ∷ slice (j + 1 + 1) n order
    next h = rw (add-one (j + 1)) (slice-cons (j + 1) n order 0 h (omega (arith, r.long)))

    front : (y : ℕ) → take (j + 1) (set order j y) ≡ take j order ++ (y ∷ [])
    front y = rw add-one (take-suc-set order j y (omega (arith, r.long, r.high)))

    back : (y m : ℕ) → j < m → slice m n (set order j y) ≡ slice m n order
    back y m h = rw (take-set-lt n order j y r.high) (drop-set-lt m (take n order) j y h)

    -- the next one is worked before x, and moves down
    pub inserting_next : j + 1 < n → before x (get_or order (j + 1) 0) ≡ false → Inserting first (j + 1) (set order j (get_or order (j + 1) 0))
    unfolding insert
    inserting_next h b =
        let y = get_or order (j + 1) 0 in
        record {
          low = omega (arith, r.low);
          high = h;
          long = length-set order j y ∙ r.long;
          numbers = λ k m u. rw (get_or-set_other order j k y 0 (λ e. omega arith)) (r.numbers k (omega arith) u);
          same =
              rw (front y, back y (j + 1 + 1) (omega arith), drop-set-lt n order j y r.high, append_assoc (take j order) (y ∷ []) (insert before x (slice (j + 1 + 1) n order) ++ drop n order))
              (rw (next h, b) at r.same);
        }

    stands : set order j x ≡ take j order ++ (x ∷ (slice (j + 1) n order ++ drop n order))
    stands = rw (set_split order j x (omega (arith, r.long, r.high)), ← parted (j + 1) n order (omega (arith, r.high)) (omega (arith, r.long)), add-one)

    -- x is worked before the next one
    pub inserting_stop : j + 1 < n → before x (get_or order (j + 1) 0) ≡ true → set order j x ≡ with_heater before n x first
    unfolding insert
    inserting_stop h b = stands ∙ rw (next h) (rw (next h, b) at r.same)

    -- x is the last to be worked
    pub inserting_end : n ≤ j + 1 → set order j x ≡ with_heater before n x first
    unfolding insert
    inserting_end h =
        let e : j + 1 ≡ n = omega (arith, r.high) in
        stands ∙ rw (e, slice_empty n order) (rw (e, slice_empty n order) at r.same)
