-- `HeaterLosses::sum_surplus` meets its contract. The loop's invariant: adding the layers left gives the whole.
use Rattle.numeric.specs.Iterate.{span_next, span_end}
use Rattle.thermal_losses.specs.Losses.{warmed, loss_at}
use Rattle.thermal_losses.proofs.HeaterLosses.sum_surplus.Goals as goal

pub loop-k-preserved : goal.loop-k-preserved
unfolding warmed loss_at
loop-k-preserved c =
    rw (c.surplus-s.ensures, c.layer_at.ensures) (span_next _ _ _ _ _ _ c.loop-k-test.true c.loop-k.invariant)

pub returns : goal.returns
returns c = span_end _ _ _ _ _ _ c.loop-k-test.false c.loop-k.invariant
