-- `record::next_record` meets its contract (01, Job): the record that stands there, by its kind.
use Rattle.job_model.specs.Job.{run_of, run_record}
use Rattle.job_run.proofs.record.next_record.Goals as goal

pub returns-in-Ok-Tank : goal.returns-in-Ok-Tank
unfolding run_of run_record
returns-in-Ok-Tank g c =
    rw (← c.came_before.ensures, ← c.read_at-r.ensures.answers, c.in-Ok-Tank.is, rw c.in-Ok-Tank.is at c.in-Ok-Tank.field-0-is, ← c.from.ensures) c.make_tank.ensures

pub returns-in-Ok-Heater : goal.returns-in-Ok-Heater
unfolding run_of run_record
returns-in-Ok-Heater g c =
    rw (← c.came_before.ensures, ← c.read_at-r.ensures.answers, c.in-Ok-Heater.is, rw c.in-Ok-Heater.is at c.in-Ok-Heater.field-0-is) c.add_heater.ensures

pub returns-in-Ok-Step : goal.returns-in-Ok-Step
unfolding run_of run_record
returns-in-Ok-Step g c =
    rw (← c.came_before.ensures, ← c.read_at-r.ensures.answers, c.in-Ok-Step.is, rw c.in-Ok-Step.is at c.in-Ok-Step.field-0-is) c.run_step.ensures

pub returns-in-Err : goal.returns-in-Err
unfolding run_of run_record
returns-in-Err g c = rw (← c.came_before.ensures, ← c.read_at-r.ensures.answers, c.in-Err.is) c.end_or_refuse.ensures
