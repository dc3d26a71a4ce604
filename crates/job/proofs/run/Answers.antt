-- `run` meets its contract (01, Job): run as a window that nothing follows, the job is told as the whole of it is.
use Rattle.job_model.proofs.Handed.{handed_last}
use Rattle.job_model.proofs.Moves.{record_moves}
use Rattle.job_model.specs.Job.{record_run}
use Rattle.job.proofs.run.Goals as goal

pub returns : goal.returns
returns g c =
    let bytes = c.args.bytes.now in
    handed_last (record_run bytes) bytes (λ j. record_moves j _ bytes) c.run_window.result (rw (← c.start.ensures) c.run_window.ensures)
