-- `zero_tank` meets its contract: the default of each number, layer, heater and flag is zero, no thermostat's position, or off.
use Rattle.std.proofs.Common.{rules, false}
use Rattle.numeric.specs.Double.{zero_f}
use Rattle.tank_model.specs.Fixed.{zero_heater}
use Rattle.tank_model.proofs.Defaults.{all_default}
use Rattle.storage_tank.proofs.make.zero_tank.Goals as goal

pub returns : goal.returns
returns c =
    let d = c.default.ensures in
    let e = d.1.1.1.1.1.1 in
    let temps = all_default _ zero_f (λ y p. p) _ _ e.1.0 in
    let fitted = all_default _ zero_heater (λ y p. search rules) _ _ e.1.1.1.0 in
    let flags = all_default _ false (λ y p. p) _ _ e.1.1.1.1 in
    rw (d.0, d.1.0, d.1.1.0, d.1.1.1.0, d.1.1.1.1.0, d.1.1.1.1.1.0, e.0, e.1.1.0, temps, fitted, flags)
