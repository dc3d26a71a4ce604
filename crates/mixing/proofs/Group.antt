-- Proves what every pair of a round does to the running group (01, Mix): one of two things; and the group never starts above the lower layer of the next pair.
use mathlib.Core.Bool.{Bool, true, false, cond}
use mathlib.Core.List.{List}
use Prim.Native.Nat.{ℕ, ◌+◌, ◌≤◌}
use native.Mathlib.Omega.{arith}
use lib.Ieee.{Float, nan}
use lib.ListN.{get_or}
use Rattle.mixing.specs.Round.{Walk, joins, group_temp, fill, pair}

module _ (n : ℕ) (vol : List Float) (i : ℕ) (w : Walk) where
  -- the walk after a pair that joins, and after one that does not
  abbrev pub joined : Walk
  joined = record { temps = fill w.bottom (i + 2) (group_temp n vol w.temps w.bottom (i + 2)) w.temps; bottom = w.bottom }

  abbrev pub parted : Walk
  parted = record { temps = w.temps; bottom = i + 1 }

  pub pair_either : (P : Walk → Type 0) → P joined → P parted → P (pair n vol i w)
  unfolding pair
  pair_either P j p = go (joins (get_or w.temps i nan) (get_or w.temps (i + 1) nan))
    where
      go : (b : Bool) → P (cond b joined parted)
      go true = j
      go false = p

  pub pair_bottom : w.bottom ≤ i → (pair n vol i w).bottom ≤ i + 1
  pair_bottom h = pair_either (λ (z : Walk). z.bottom ≤ i + 1) (omega arith) (omega arith)
