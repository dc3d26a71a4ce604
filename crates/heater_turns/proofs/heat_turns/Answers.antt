-- `heat_turns` meets its contract (01, Step): the turns in the order of work.
use Rattle.std.proofs.Common.{ℕ, ◌<◌, List, refl, sym, ap, ◌∙◌, arith, length}
use Rattle.std.proofs.lemmas.List.{get_or-take, length-take-le}
use Rattle.tank_model.proofs.Order.{first_in_order}
use Rattle.heater_turns.specs.Lent.{fixed_lent, heating_in, uncounted}
use Rattle.heater_turns.proofs.TurnLoop.{turns_from}
use Rattle.heater_turns.proofs.heat_turns.Goals as goal

pub heat_in_order-requires : goal.heat_in_order-requires
heat_in_order-requires c =
    let n = length c.args.fitted.now in
    let many = length-take-le n c.order_of_work-order.result (omega arith) in
    (c.requires.0, c.requires.1, refl, omega arith, λ k l. let l' : k < n = omega arith in rw get_or-take (c.order_of_work-order.ensures.below k l'))

pub returns : goal.returns
returns c =
    let a = c.args in
    let t = a.tank.now in
    let hs = a.fitted.now in
    let n = length hs in
    let first = first_in_order n hs _ (fixed_lent t.numbers t.vol n hs) c.order_of_work-order.ensures.order refl in
    ap (λ (os : List ℕ). turns_from t.numbers t.vol n hs a.settings.now os (heating_in a.state.now a.notes.now) (uncounted a.notes.now)) (sym first)
    ∙ c.heat_in_order.ensures
