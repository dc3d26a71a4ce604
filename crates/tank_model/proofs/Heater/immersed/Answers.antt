-- `immersed` meets its contract (01, Tank): of a tank with layers it finds two of them.
use Rattle.std.proofs.Common.{arith}
use Rattle.numeric.proofs.Layer.{layer_below}
use Rattle.tank_model.proofs.Heater.immersed.Goals as goal

pub returns-clause-below : goal.returns-clause-below
returns-clause-below c some = rw (c.layer_of.ensures, c.layer_of-2.ensures) (layer_below c.args.n (omega arith) (omega arith) _, layer_below c.args.n (omega arith) (omega arith) _)
