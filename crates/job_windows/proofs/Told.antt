-- Proves that a job told window by window, whatever is printed of a step, is the whole job (01, Job).
use Prim.Native.Nat.{ℕ}
use mathlib.Core.List.{List}
use lib.ListN.{length}
use Rattle.job_model.specs.declared.Job.{Job}
use Rattle.job_model.specs.Job.{StepText, run_record}
use Rattle.job_model.proofs.Moves.{Moves, record_moves}

pub lines_move : (text : StepText) (bytes : List ℕ) (j : Job) → Moves j (length bytes) (run_record text bytes j)
lines_move text bytes j = record_moves j text bytes
