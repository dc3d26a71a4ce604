-- The loop of `window::run_window`: the records run so far are the first of the window's, and each leaves fewer.
use lib.ListN.{length}
use Rattle.job_records.specs.Windows.{is_ready}
use Rattle.job_model.proofs.Ends.{records_left}
use Rattle.job_model.proofs.WindowLoop.{Running}
use Rattle.job_model.specs.Job.{run_record}
use Rattle.job_windows.proofs.window.run_window.Given as goal

abbrev pub invariant-loop-told : goal.invariant-loop-told
invariant-loop-told g l = Running (run_record g.P.StepPrinter.text l.bytes) (is_ready l.bytes l.last) (length l.bytes) l.fn.job l.ran.job l.ran.taken

abbrev pub decreases-loop-told : goal.decreases-loop-told
decreases-loop-told g l = records_left (length l.bytes) l.ran.job.ended l.ran.job.at
