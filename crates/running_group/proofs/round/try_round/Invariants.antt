-- `round::try_round` meets its contract (01, Mix). The loop's invariant: what is kept after i pairs follows the round by definition.
use Prim.Native.Nat.{◌-◌, ◌≤◌}
use Rattle.layer_joining.specs.Running.{Follows}
use Rattle.running_group.proofs.round.try_round.Given as goal

abbrev pub invariant-loop-i : goal.invariant-loop-i
invariant-loop-i l = (l.i ≤ (l.n - 1)) × (l.r.bottom ≤ l.i) × Follows l.n l.vol l.initial.temps l.i l.temps l.r
