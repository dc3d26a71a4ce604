-- `tanks::heaters_of` meets its contract (01, The four calls): three numbers of each heater.
use Rattle.std.specs.Prelude.{unwrap_or}
use Rattle.numeric.specs.Double.{zero_f}
use Rattle.tank_model.specs.declared.Heater.{Heater}
use Rattle.tank_model.specs.Fixed.{no_heater}
use Rattle.lent_tank.specs.Layout.{heaters_of}
use Rattle.lent_tank.proofs.tanks.heaters_of.Goals as goal

pub returns : goal.returns
unfolding heaters_of
returns c =
    c.three_each.ensures (λ (x : Heater). x.rated) (λ (x : Heater). x.position) (λ (x : Heater). unwrap_or x.thermostat zero_f) no_heater
    (λ x r says. says)
