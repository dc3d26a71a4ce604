-- `tank_refusal` meets its contract (01, The four calls: 1 to 5): what the slice of the first heaters is refused for is what the tank is.
use Rattle.std.proofs.Common.{◌≡◌, ◌≤◌, ◌∙◌, ap, length, arith}
use Rattle.refusals.specs.Refusals.{number_in}
use Rattle.tank_model.specs.Fixed.{placed_heaters}
use Rattle.tank_model.specs.Checks.{places_check}
use Rattle.tank_model.proofs.Order.{many_placed, taken_heaters}
use Rattle.tank_refusals.proofs.FirstRefusal.{one_by_one}
use Rattle.tank_refusals.proofs.calls.tank_refusal.Goals as goal

pub returns : goal.returns
returns c =
    let a = c.args in
    let few : a.n ≤ length a.fitted.now = grind arith in
    let e : number_in c.places_check.result ≡ places_check (placed_heaters a.n a.fitted.now) = c.places_check.ensures ∙ ap places_check (taken_heaters a.n a.fitted.now few) in
    grind (arith, one_by_one, many_placed)
