-- `Layer::surplus` meets its contract.
use lib.Ieee.{of_bits}
use Rattle.set_points.proofs.Given.{upper_or_nan}
use Rattle.layer_losses.specs.Loss.{surplus_term}
use Rattle.layer_losses.proofs.Layer.surplus.Goals as goal

pub returns : goal.returns
unfolding surplus_term of_bits
returns c = rw (c.unwrap_or.ensures, c.upper.ensures, upper_or_nan c.args.p, c.loss-lost.ensures _ _ c.limit.ensures)
