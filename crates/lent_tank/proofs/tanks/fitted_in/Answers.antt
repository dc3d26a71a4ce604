-- `tanks::fitted_in` meets its contract (01, The four calls): each place holds its heater.
use Rattle.std.proofs.Common.{rules, ◌∙◌, ap, sym, ℕ, ◌+◌, Bool, get_or}
use Rattle.std.proofs.Math.ListN.{get_or-map}
use Rattle.std.specs.Bool.{then_some}
use Rattle.std.specs.Float.{nan}
use Rattle.numeric.specs.Tabulate.{tabulate_same}
use Rattle.working_order.specs.Order.{max_heaters}
use Rattle.tank_model.specs.declared.Heater.{Heater}
use Rattle.lent_tank.specs.Flags.{flag_in, flags_in}
use Rattle.lent_tank.specs.Layout.{two_each, heater_in, fitted_in}
use Rattle.lent_tank.proofs.Places.{row}
use Rattle.lent_tank.proofs.tanks.fitted_in.Goals as goal

pub returns : goal.returns
unfolding fitted_in flag_in
returns c =
    let xs = c.args.heaters.now in
    let bytes = c.args.thermostats.now in
    let heater : ℕ → Bool → Heater = λ (h : ℕ) (b : Bool). record { rated = get_or xs h nan; position = get_or xs (max_heaters + h) nan; thermostat = then_some b (get_or xs (two_each + h) nan) } in
    let read : ℕ → Heater = λ (h : ℕ). heater h (flag_in (get_or bytes h 0)) in
    row _ _ read _ _ (λ h y t l e. (search rules, search rules)) c.from_fn.ensures.items
    ∙ tabulate_same read (heater_in xs (flags_in bytes)) max_heaters 0 (λ h l u. ap (heater h) (sym (get_or-map flag_in bytes h 0)))
