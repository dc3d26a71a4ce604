-- `record::refuse` meets its contract (01, Job): the line of the refusal, and the job ended.
use Rattle.job_model.specs.Job.{refused_run}
use Rattle.job_model.proofs.Given.{gives_lines}
use Rattle.job_run.proofs.record.refuse.Goals as goal

pub returns : goal.returns
unfolding refused_run
returns c = rw (c.end_job.ensures, ← c.number.ensures) (gives_lines _ _ _ _ _ c.refusal_line-length.ensures)
