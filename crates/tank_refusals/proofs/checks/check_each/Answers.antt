-- `check_each` meets its contract (01, The four calls): the first item that does not pass decides.
use Rattle.std.proofs.Common.{rules, ◌≡◌, ◌∙◌}
use Rattle.refusals.specs.Refusals.{number_of, number_in}
use Rattle.tank_model.specs.FirstRefusal.{searched_start, searched_end}
use Rattle.tank_refusals.proofs.FirstRefusal.{item_refuses, item_passes}
use Rattle.tank_refusals.proofs.checks.check_each.Goals as goal

pub loop-x-init : goal.loop-x-init
loop-x-init g c = λ number d says. searched_start _ _

pub returns-in_err-check : goal.returns-in_err-check
returns-in_err-check g c =
    λ number d says.
    let e : number_in c.from_residual.result ≡ number_of c.in_err-check.field-0.0 = search rules in
    e ∙ item_refuses number d _ _ _ _ c.loop-x-test.true c.x-item.is (says _ _ c.in_err-check.ensures) (c.loop-x.invariant number d says)

pub loop-x-preserved : goal.loop-x-preserved
loop-x-preserved g c =
    λ number d says.
    item_passes number d _ _ _ c.loop-x-test.true c.x-item.is (says _ _ c.in_ok-check.ensures) (c.loop-x.invariant number d says)

pub returns : goal.returns
returns g c = λ number d says. searched_end _ _ _ c.loop-x-test.false (c.loop-x.invariant number d says)
