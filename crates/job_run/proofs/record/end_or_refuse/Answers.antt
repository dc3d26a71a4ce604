-- `record::end_or_refuse` meets its contract (01, Job): the input's end after any record ends the job; all else is 11.
use borrow.Author.Tests.{eq-eqb, ne_eqb}
use Rattle.job_model.specs.Job.{end_run}
use Rattle.job_model.proofs.Given.{gives_nothing}
use Rattle.job_run.proofs.record.end_or_refuse.Goals as goal
use Rattle.job_run.proofs.record.end_or_refuse.Goals.{then-j-size-via-then-j-size, then-j-size-via-else-j-size+then-j-eq0}

pub returns-then-j-size : goal.returns-then-j-size
unfolding end_run
returns-then-j-size c = elim c.then-j-size.branch [
  | then-j-size-via-then-j-size w ↦ rw (ne_eqb _ _ w.if-j-size.true) c.refuse.ensures
  | then-j-size-via-else-j-size+then-j-eq0 w ↦ rw (eq-eqb _ _ w.if-j-size.false, eq-eqb _ _ w.if-j-eq0.true) c.refuse.ensures
]

pub returns : goal.returns
unfolding end_run
returns c = rw (eq-eqb _ _ c.if-j-size.false, ne_eqb _ _ c.if-j-eq0.false, c.end_job.ensures) (gives_nothing _ _)
