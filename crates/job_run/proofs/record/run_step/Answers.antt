-- `record::run_step` meets its contract (01, Job): the step's lines, and one step more.
use Rattle.job_model.specs.Job.{step_run}
use Rattle.job_model.proofs.Given.{gives_lines}
use Rattle.job_run.proofs.record.run_step.Goals as goal

pub returns : goal.returns
unfolding step_run
returns g c = let p = c.print_step-p.ensures in rw (← p.steps) (gives_lines _ _ _ _ _ p.prints)
