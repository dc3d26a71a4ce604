-- `record::add_heater` meets its contract (01, Job): a ninth heater is check 2's to refuse, any other is make's to judge.
use Rattle.std.proofs.Common.{◌+◌, refl, arith}
use Rattle.tank_model.specs.Checks.{heaters_check}
use Rattle.tank_refusals.proofs.FirstRefusal.{few_heaters}
use Rattle.job_model.specs.Job.{with_heater, made_run, heater_run}
use Rattle.job_model.proofs.Given.{refused_job, accepted_job}
use Rattle.job_run.proofs.record.add_heater.Goals as goal

pub with_heater-requires : goal.with_heater-requires
with_heater-requires c = let l = few_heaters (c.args.j.design.heaters + 1) 0 c.in-Ok.ensures refl in omega arith

pub returns-in-Ok : goal.returns-in-Ok
unfolding heater_run
returns-in-Ok c =
    let a = c.args in
    rw (accepted_job a.j (heaters_check (a.j.design.heaters + 1)) (made_run a.j a.next (with_heater a.j.design a.h)) c.in-Ok.ensures, ← c.with_heater.ensures)
    c.make_tank.ensures

pub returns-in-Err : goal.returns-in-Err
unfolding heater_run
returns-in-Err c =
    let a = c.args in
    rw (refused_job a.j c.in-Err.refusal (heaters_check (a.j.design.heaters + 1)) (made_run a.j a.next (with_heater a.j.design a.h)) c.in-Err.ensures)
    c.refuse.ensures
