-- `record::make_tank` meets its contract (01, Job): by what make answers.
use Rattle.std.proofs.Common.{refl}
use Rattle.job_model.specs.Job.{made_run}
use Rattle.job_model.proofs.Given.{gives_nothing, refused_job}
use Rattle.job_run.proofs.record.make_tank.Goals as goal

pub returns-in-Ok : goal.returns-in-Ok
unfolding made_run
returns-in-Ok c = rw (← c.new-m.ensures, c.in-Ok.is) (gives_nothing _ _)

pub returns-in-Err : goal.returns-in-Err
unfolding made_run
returns-in-Err c = rw (← c.new-m.ensures, c.in-Err.is, refused_job c.args.j c.in-Err.refusal _ _ refl) c.refuse.ensures
