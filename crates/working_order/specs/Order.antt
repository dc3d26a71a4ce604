-- States what a heater is worked before, and the rising order of positions, ties in the given order (01, Tank): an insertion sort of the heaters' numbers. How
-- many heaters there can be.
use Rattle.std.specs.Prelude.{ℕ, ◌+◌, ◌≤◌, ◌<◌, Bool, cond, List, [], ◌∷◌, ◌++◌, get_or, take, drop, Float}
use Rattle.std.proofs.Math.Seq.{slice}
use Rattle.std.specs.Float.{nan}
use Rattle.std.specs.Float.Ieee.{le}
use Rattle.numeric.specs.Tabulate.{tabulate}

-- how many heaters there can be: `MAX_HEATERS` of the code
abbrev pub max_heaters : ℕ
max_heaters = 8

-- the numbers from 0 to below n
abbrev pub indices : ℕ → List ℕ
indices n = tabulate (λ (k : ℕ). k) n 0

-- x among heaters that are given after it and are in order
unfoldable pub insert : (ℕ → ℕ → Bool) → ℕ → List ℕ → List ℕ
insert before x [] = x ∷ []
insert before x (y ∷ ys) = cond (before x y) (x ∷ y ∷ ys) (y ∷ insert before x ys)

unfoldable pub insertion_sort : (ℕ → ℕ → Bool) → List ℕ → List ℕ
insertion_sort before [] = []
insertion_sort before (x ∷ xs) = insert before x (insertion_sort before xs)

-- the heater x, given before y, is worked before it: y's position is not lower. `position` says where each heater sits
abbrev pub comes_before : (ℕ → Float) → ℕ → ℕ → Bool
comes_before position x y = le (position x) (position y)

-- the first n heaters in rising position
unfoldable pub rising_order : (ℕ → Float) → ℕ → List ℕ
rising_order position n = insertion_sort (comes_before position) (indices n)

-- ---- an array that holds an order

-- each entry from place i on is the number of one of n heaters
abbrev pub NumbersFrom : ℕ → ℕ → List ℕ → Type 0
NumbersFrom i n order = (k : ℕ) → i ≤ k → k < n → get_or order k 0 < n

-- x at its place among those in the places from x + 1 to below n, where those worked before it have moved down by one place
abbrev pub with_heater : (ℕ → ℕ → Bool) → ℕ → ℕ → List ℕ → List ℕ
with_heater before n x order = take x order ++ (insert before x (slice (x + 1) n order) ++ drop n order)

-- ---- the positions in a plain array

abbrev pub position_in : List Float → ℕ → Float
position_in positions h = get_or positions h nan
