-- `kept::KeptSum::volume_used` meets its contract (01, Draw). The loop's invariant: the accumulator has the layers below k, and what is left gives the whole
-- sum.
use Prim.Native.Nat.{ℕ, ◌+◌}
use lib.ListN.{get_or}
use lib.Ieee.{nan}
use Rattle.numeric.specs.Iterate.{Span}
use Rattle.numeric.specs.Sum2.{add_at}
use Rattle.draw_events.proofs.kept.KeptSum.volume_used.Given as goal

abbrev pub invariant-loop-h : goal.invariant-loop-h
invariant-loop-h l = Span (add_at (λ (j : ℕ). get_or l.held j nan)) l.tank.numbers.layers l.self.layers l.initial.a (l.self.layers + l.h-index) l.a
