-- `new_tank` meets its contract (01, Tank): the heaters that are stored are the first ones of the design.
use Rattle.std.proofs.Common.{◌≤◌, length, arith}
use Rattle.storage_tank.proofs.Fitted.{taken_fitted}
use Rattle.storage_tank.proofs.make.new_tank.Goals as goal

pub returns : goal.returns
returns c =
    let m = c.args.m in
    let few : m.heaters ≤ length m.fitted = omega arith in
    rw (c.initial_temps.ensures, c.fitted_heaters.ensures, taken_fitted m.heaters m.fitted few)
