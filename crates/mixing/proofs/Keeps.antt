-- Proves that a mixing of n layers keeps the number of places, and what stands past the layers (01, Mix).
use mathlib.Core.Bool.{Bool, true, false, cond}
use mathlib.Core.List.{List}
use Prim.Native.Nat.{ℕ, zero, suc, ◌+◌, ◌-◌, ◌≤◌, ◌<◌}
use native.Mathlib.Omega.{arith}
use lib.ListN.{get_or, set}
use lib.Ieee.{Float, nan}
use Rattle.numeric.specs.Iterate.{iterate_reach}
use Rattle.numeric.specs.Places.{Keeps, keeps_self, keeps_trans, keeps_set, iterate_keeps}
use Rattle.mixing.specs.Limits.{max_rounds}
use Rattle.mixing.specs.Round.{Walk, joins, group_temp, fill, pair, one_round}
use Rattle.mixing.specs.Rearrange.{is_sorted, rounds, rearrange}
use Rattle.mixing.specs.Mix.{temps_of}
use Rattle.mixing.proofs.Group.{pair_bottom}

pub fill_keeps : (n i end : ℕ) (x : Float) (temps : List Float) → i ≤ end → end ≤ n → Keeps n temps (fill i end x temps)
fill_keeps n i end x temps h l =
    iterate_keeps (λ (k : ℕ) (t : List Float). set t k x) n (λ k t m. keeps_set n t k x m) (end - i) i temps (omega arith)

module _ (n : ℕ) (vol temps : List Float) where
  -- where a walk has come to: the group starts at or below the next pair, and what stands past the layers is as it was
  abbrev Walked : ℕ → Walk → Type 0
  Walked i w = (w.bottom ≤ i) × Keeps n temps w.temps

  chosen : (b : Bool) (i bottom : ℕ) (filled t : List Float) → Keeps n temps filled → Keeps n temps t → Keeps n temps (cond {A = Walk} b (record { temps = filled; bottom = bottom }) (record { temps = t; bottom = i + 1 })).temps
  chosen true i bottom filled t f e = f
  chosen false i bottom filled t f e = e

  pair_keeps : (i : ℕ) (w : Walk) → i < n - 1 → Walked i w → Walked (i + 1) (pair n vol i w)
  unfolding pair
  pair_keeps i w h r =
      let x = group_temp n vol w.temps w.bottom (i + 2) in
      let filled = fill w.bottom (i + 2) x w.temps in (
        pair_bottom n vol i w r.0,
        chosen (joins (get_or w.temps i nan) (get_or w.temps (i + 1) nan)) i w.bottom filled w.temps
            (keeps_trans n temps w.temps filled r.1 (fill_keeps n w.bottom (i + 2) x w.temps (omega arith) (omega arith)))
            r.1,
      )

  round_keeps : Keeps n temps (one_round n vol temps)
  unfolding one_round
  round_keeps =
      (iterate_reach (pair n vol) Walked (n - 1) pair_keeps (n - 1) 0 (record { temps = temps; bottom = 0 }) (omega arith) (omega arith, keeps_self n temps)).1

rounds_keeps : (left : ℕ) (b : Bool) (k n : ℕ) (vol temps old : List Float) → Keeps n old temps → Keeps n old (temps_of old (rounds left b k n vol temps))
unfolding rounds
rounds_keeps zero true k n vol temps old h = h
rounds_keeps zero false k n vol temps old h = keeps_self n old
rounds_keeps (suc left) true k n vol temps old h = h
rounds_keeps (suc left) false k n vol temps old h =
    let next = one_round n vol temps in
    rounds_keeps left (is_sorted n next) (k + 1) n vol next old (keeps_trans n old temps next h (round_keeps n vol temps))

-- the law
pub rearrange_keeps : (n : ℕ) (vol temps : List Float) → Keeps n temps (temps_of temps (rearrange n vol temps))
unfolding rearrange
rearrange_keeps n vol temps = rounds_keeps (max_rounds n) false 0 n vol temps temps (keeps_self n temps)
