-- `fitted_heaters` meets its contract (01, Tank): what is copied, and the zeros behind it, is what stands at each place.
use Rattle.std.proofs.Common.{rules, ◌≡◌}
use Rattle.tank_model.specs.Fixed.{zero_heater}
use Rattle.storage_tank.proofs.Fitted.{copied}
use Rattle.storage_tank.proofs.make.fitted_heaters.Goals as goal

pub returns : goal.returns
returns c =
    let z : c.default-heaters.result ≡ zero_heater = search rules in
    rw (z, c.copy_from_slice.ensures.after) (copied c.args.fitted.now c.requires)
