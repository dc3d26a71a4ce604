-- The loop of `is_same`: what is left of the stored lines, against what is left of the job, decides, and each record leaves fewer.
use Rattle.std.proofs.Common.{length}
use Rattle.job_model.proofs.Ends.{records_left}
use Rattle.replay.proofs.Comparing.{Comparing}
use Rattle.replay.proofs.is_same.Given as goal

abbrev pub invariant-loop-job : goal.invariant-loop-job
invariant-loop-job l = Comparing l.bytes l.stored l.job l.rest

abbrev pub decreases-loop-job : goal.decreases-loop-job
decreases-loop-job l = records_left (length l.bytes) l.job.ended l.job.at
