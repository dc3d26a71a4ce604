-- `with_more` meets its contract (01, Arithmetic underneath). The loop's invariant: sum is that of `counter` terms, where a is that of k.
use Prim.Native.Nat.{◌≤◌}
use Rattle.shorter_sums.specs.Shorter.{MoreAdded}
use Rattle.shorter_sums.proofs.with_more.Given as goal

abbrev pub invariant-loop : goal.invariant-loop
invariant-loop l = (l.counter ≤ l.m) × MoreAdded l.fn.a l.b l.k l.counter l.sum
