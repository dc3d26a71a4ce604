-- States the whole of `rearrange_temperatures` (01, Mix and refusal 9): rounds until order is nondecreasing, the first always run, refused when the last
-- that may run leaves them out of order.
use Rattle.std.specs.Prelude.{ℕ, zero, suc, ◌+◌, ◌-◌, Bool, true, false, List, get_or, Float}
use Rattle.std.specs.Float.{nan}
use Rattle.std.specs.Float.Ieee.{le}
use Rattle.numeric.specs.Holds.{holds}
use Rattle.mixing.specs.Limits.{max_rounds}
use Rattle.mixing.specs.Round.{one_round}

-- a layer is at most the one above it
abbrev pub rises : List Float → ℕ → Bool
rises temps i = le (get_or temps i nan) (get_or temps (i + 1) nan)

-- nondecreasing: each of n layers at most the one above it
unfoldable pub is_sorted : ℕ → List Float → Bool
is_sorted n temps = holds (rises temps) (n - 1) 0

-- what a mixing comes to: the layers in order after so many rounds, or out of order after all rounds
pub data Mixing : Type 0 where
  sorted : List Float → ℕ → Mixing
  unsorted : Mixing

-- the layers after k rounds, in order or not
unfoldable pub after_rounds : ℕ → ℕ → List Float → List Float → List Float
after_rounds zero n vol temps = temps
after_rounds (suc k) n vol temps = one_round n vol (after_rounds k n vol temps)

-- k rounds have run and left `temps`, in order or not as b says; `left` more may run
unfoldable pub rounds : ℕ → Bool → ℕ → ℕ → List Float → List Float → Mixing
rounds zero true k n vol temps = sorted temps k
rounds zero false k n vol temps = unsorted
rounds (suc left) true k n vol temps = sorted temps k
rounds (suc left) false k n vol temps =
    let next = one_round n vol temps in
    rounds left (is_sorted n next) (k + 1) n vol next

-- before the first round the layers count as out of order, so that it always runs
unfoldable pub rearrange : ℕ → List Float → List Float → Mixing
rearrange n vol temps = rounds (max_rounds n) false 0 n vol temps
