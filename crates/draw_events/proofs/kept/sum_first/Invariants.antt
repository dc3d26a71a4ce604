-- `kept::sum_first` meets its contract (01, Draw). The loop's invariant: the accumulator has the layers below k, and what is left gives the whole sum.
use Prim.Native.Nat.{ℕ}
use lib.ListN.{get_or}
use lib.Ieee.{nan}
use Rattle.numeric.specs.Iterate.{Rest}
use Rattle.numeric.specs.Sum2.{add_at}
use Rattle.draw_events.proofs.kept.sum_first.Given as goal

abbrev pub invariant-loop-v : goal.invariant-loop-v
invariant-loop-v l = Rest (add_at (λ (j : ℕ). get_or l.vol j nan)) l.n l.initial.a l.v-index l.a
