-- `volumes_check` meets its contract (01, The four calls: 7): the first volume that does not pass decides.
use Rattle.std.specs.Float.{nan}
use Rattle.tank_model.specs.Checks.{volume_check}
use Rattle.tank_refusals.proofs.checks.volumes_check.Goals as goal

pub returns : goal.returns
returns c = c.check_each.ensures volume_check nan (λ x r e. e)
