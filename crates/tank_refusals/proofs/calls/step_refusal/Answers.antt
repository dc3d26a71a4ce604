-- `step_refusal` meets its contract (01, The four calls): the tank's checks decide, or the step's.
use Rattle.std.proofs.Common.{rules, ◌≡◌, ◌∙◌, [], refl, sym}
use Rattle.refusals.specs.Refusals.{number_of, number_in}
use Rattle.refusals.proofs.Numbers.{number-not_0}
use Rattle.tank_refusals.proofs.FirstRefusal.{tank_decides, step_decides, tank_heaters, step_counts, on_ok}
use Rattle.tank_refusals.proofs.calls.step_refusal.Goals as goal

pub returns-in_err-tank_refusal-clause-refuses : goal.returns-in_err-tank_refusal-clause-refuses
returns-in_err-tank_refusal-clause-refuses c =
    let a = c.args in
    let e : number_in c.from_residual.result ≡ number_of c.in_err-tank_refusal.field-0.0 = search rules in
    λ flags.
    e ∙ tank_decides a.c a.n a.fitted.now (record { temps = a.temps.now; flags = flags }) a.a.now _ _
    c.are_stored_finite-finite.ensures c.in_err-tank_refusal.ensures (number-not_0 _)

pub arguments_refusal-requires : goal.arguments_refusal-requires
arguments_refusal-requires c =
    let a = c.args in
    tank_heaters a.c a.n a.fitted.now (record { temps = a.temps.now; flags = [] }) a.a.now _ _ c.in_ok-tank_refusal.ensures refl

pub returns-clause-refuses : goal.returns-clause-refuses
returns-clause-refuses c =
    let a = c.args in
    λ flags.
    step_decides a.c a.n a.fitted.now (record { temps = a.temps.now; flags = flags }) a.a.now _ _ _
    c.are_stored_finite-finite.ensures c.in_ok-tank_refusal.ensures refl c.arguments_refusal.ensures

pub returns-clause-within : goal.returns-clause-within
returns-clause-within c =
    let a = c.args in
    on_ok _ _ (λ z. step_counts a.c a.n a.fitted.now (record { temps = a.temps.now; flags = [] }) a.a.now (sym (returns-clause-refuses c []) ∙ z))
