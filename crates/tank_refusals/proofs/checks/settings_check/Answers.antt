-- `settings_check` meets its contract (02, R-1: 12, 8 and 13): the first heater whose set points do not pass decides.
use Rattle.std.proofs.Common.{◌≤◌, ◌∙◌, length, arith}
use Rattle.set_points.specs.declared.SetPoints.TheVariants.{Neither}
use Rattle.tank_model.specs.Checks.{points_check}
use Rattle.tank_refusals.proofs.FirstRefusal.{first_taken}
use Rattle.tank_refusals.proofs.checks.settings_check.Goals as goal

pub returns : goal.returns
returns c =
    let few : c.args.n ≤ length c.args.settings.now = omega arith in
    c.check_each.ensures points_check Neither (λ x r e. e) ∙ first_taken points_check Neither _ _ few
