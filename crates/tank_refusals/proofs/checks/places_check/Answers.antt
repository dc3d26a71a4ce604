-- `places_check` meets its contract (01, The four calls: 5): the first heater that does not pass decides.
use Rattle.std.proofs.Common.{◌∙◌}
use Rattle.tank_model.specs.declared.Heater.{Heater}
use Rattle.tank_model.specs.Fixed.{placed, no_heater}
use Rattle.tank_model.specs.Checks.{heater_check}
use Rattle.tank_refusals.proofs.FirstRefusal.{places_are}
use Rattle.tank_refusals.proofs.checks.places_check.Goals as goal

pub returns : goal.returns
returns c = c.check_each.ensures (λ (x : Heater). heater_check (placed x)) no_heater (λ x r e. e) ∙ places_are _ _
