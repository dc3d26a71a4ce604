-- `start::start` meets its contract (01, Job): no tank, no heaters, no step, and a report of zeros.
use Rattle.std.proofs.Common.{rules}
use Rattle.tank_model.specs.Fixed.{zero_heater}
use Rattle.tank_model.specs.Work.{zero_line}
use Rattle.tank_model.proofs.Defaults.{all_default}
use Rattle.job_run.proofs.start.start.Goals as goal

pub returns : goal.returns
returns c =
    let d = c.default.ensures in
    let e = d.1.1.1.1.1.1 in
    let r = c.default-2.ensures in
    let fitted = all_default _ zero_heater (λ y p. search rules) _ _ e.1.1.1 in
    let lines = all_default _ zero_line (λ y p. search rules) _ _ r.1.1.1.1 in
    rw (c.zero_tank.ensures, d.0, d.1.0, d.1.1.0, d.1.1.1.0, d.1.1.1.1.0, d.1.1.1.1.1.0, e.0, e.1.0, e.1.1.0, fitted, r.0, r.1.0, r.1.1.0, r.1.1.1.0, lines)
