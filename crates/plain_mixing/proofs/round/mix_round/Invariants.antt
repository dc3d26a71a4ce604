-- `round::mix_round` meets its contract (01, Mix). The loop's invariant: the pairs left, from the walk so far, give the whole round; the group starts at or
-- below the next pair.
use Prim.Native.Nat.{◌-◌, ◌≤◌}
use Rattle.numeric.specs.Iterate.{Rest}
use Rattle.mixing.specs.Round.{pair}
use Rattle.plain_mixing.proofs.round.mix_round.Given as goal

abbrev pub invariant-loop-i : goal.invariant-loop-i
invariant-loop-i l = (l.bottom ≤ l.i) × Rest (pair l.n l.vol) (l.n - 1) (record { temps = l.initial.temps; bottom = 0 }) l.i (record { temps = l.temps; bottom = l.bottom })
