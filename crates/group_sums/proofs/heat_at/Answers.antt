-- `heat_at` meets its contract (01, Mix). The loop's invariant: adding the terms left gives the whole sum.
use native.Mathlib.Omega.{arith}
use Rattle.numeric.specs.Iterate.{span_start, span_next, span_end}
use Rattle.group_sums.proofs.heat_at.Goals as goal

pub loop-k-init : goal.loop-k-init
loop-k-init c = span_start _ _ _ _ (omega arith)

pub loop-k-preserved : goal.loop-k-preserved
loop-k-preserved c = rw c.add_term-heat.ensures (span_next _ _ _ _ _ _ c.loop-k-test.true c.loop-k.invariant)

pub returns : goal.returns
returns c = rw (← c.start-heat.ensures) (span_end _ _ _ _ _ _ c.loop-k-test.false c.loop-k.invariant)
