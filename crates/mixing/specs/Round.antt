-- States one round of `rearrange_temperatures` (01, Mix) over n layers: `vol` holds each layer's volume, `temps` its temperature, the bottom first.
-- The running group is the layers from `bottom` up to the pair; it is a range, since a round walks upward and a pair that does not join ends the group.
use Rattle.std.specs.Prelude.{ℕ, ◌+◌, ◌-◌, Bool, cond, ◌&&◌, ◌||◌, List, get_or, set, leb, ltb, Float}
use Rattle.std.specs.Float.{nan}
use Rattle.std.specs.Float.Ieee.{lt}
use Rattle.numeric.specs.Double.{◌⊛◌, ◌⊘◌, zero_f, one_f}
use Rattle.numeric.specs.Close.{narrow_close}
use Rattle.numeric.specs.Iterate.{iterate}
use Rattle.numeric.specs.Tabulate.{tabulate}
use Rattle.numeric.specs.Sum2.{sum2}

-- a pair joins the group: its lower layer is hotter or narrow-close
unfoldable pub joins : Float → Float → Bool
joins lower upper = lt upper lower || narrow_close lower upper

-- 1 for a layer k of the group, which is the layers from `bottom` to below `end`; 0 for a layer outside it
unfoldable pub member : ℕ → ℕ → ℕ → Float
member bottom end k = cond (leb bottom k && ltb k end) one_f zero_f

-- the terms of the group's two sums, volume × temperature and volume, each times 0 outside the group
abbrev pub heat_term : List Float → List Float → ℕ → ℕ → ℕ → Float
heat_term vol temps bottom end k = get_or vol k nan ⊛ get_or temps k nan ⊛ member bottom end k

abbrev pub volume_term : List Float → ℕ → ℕ → ℕ → Float
volume_term vol bottom end k = get_or vol k nan ⊛ member bottom end k

-- what the group's layers take: Sum2(volume × temperature) / Sum2(volume), each over all n layers
unfoldable pub group_temp : ℕ → List Float → List Float → ℕ → ℕ → Float
group_temp n vol temps bottom end =
    sum2 (tabulate (heat_term vol temps bottom end) n 0) ⊘ sum2 (tabulate (volume_term vol bottom end) n 0)

-- the places from i to below `end` take x
abbrev pub fill : ℕ → ℕ → Float → List Float → List Float
fill i end x temps = iterate (λ (k : ℕ) (t : List Float). set t k x) (end - i) i temps

-- where a walk has come to: the temperatures, and the lowest layer of the group that has the pair's lower layer
pub record Walk : Type 0 where
  pub temps : List Float
  pub bottom : ℕ

abbrev pub walk_at : List Float → ℕ → Walk
walk_at temps bottom = record { temps = temps; bottom = bottom }

-- the pair of the layers i and i + 1: it joins the group, whose layers all take the group's temperature; or it ends the group
unfoldable pub pair : ℕ → List Float → ℕ → Walk → Walk
pair n vol i w =
    cond (joins (get_or w.temps i nan) (get_or w.temps (i + 1) nan))
    (record { temps = fill w.bottom (i + 2) (group_temp n vol w.temps w.bottom (i + 2)) w.temps; bottom = w.bottom })
    (record { temps = w.temps; bottom = i + 1 })

-- one round: the pairs from the bottom up
unfoldable pub one_round : ℕ → List Float → List Float → List Float
one_round n vol temps = (iterate (pair n vol) (n - 1) 0 (record { temps = temps; bottom = 0 })).temps
