-- `whole::whole_below` meets its contract (01, Tank). The loop's invariant: the number before k is 0, or below n and at most x.
use Prim.Native.Nat.{◌-◌}
use Rattle.numeric.proofs.WholePart.{Found}
use Rattle.numeric.proofs.whole.whole_below.Given as goal

abbrev pub invariant-loop-k : goal.invariant-loop-k
invariant-loop-k l = Found l.n l.x (l.k - 1)
