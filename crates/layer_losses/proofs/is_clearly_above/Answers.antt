-- `is_clearly_above` meets its contract.
use Rattle.numeric.specs.Close.{wide_close}
use Rattle.numeric.proofs.Within.{wide_finite}
use Rattle.layer_losses.specs.Loss.{clearly_above}
use Rattle.layer_losses.proofs.is_clearly_above.Goals as goal

pub returns-then-t-u : goal.returns-then-t-u
unfolding clearly_above wide_close
returns-then-t-u c = rw (c.if-t-u.true, c.is_close_above.ensures wide_finite c.if-t-u.true)

pub returns-else-t-u : goal.returns-else-t-u
unfolding clearly_above
returns-else-t-u c = rw c.if-t-u.false
