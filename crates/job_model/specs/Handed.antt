-- States how far a program came that prints a job record by record and stops at the first write that fails (01, Job): all its text was taken, or a beginning.
use Rattle.std.specs.Prelude.{ℕ, suc, ◌≤◌, ◌<◌, false, List, ◌++◌, ◌≡◌, Result, MatchResult, length}
use Rattle.job_model.specs.declared.CutShort.{CutShort}
use Rattle.job_model.specs.declared.Job.{Job}
use Rattle.job_model.specs.declared.Ran.{Ran}
use Rattle.job_model.specs.Job.{RecordRun, start_job, run_from, run_all}

-- the first so many records: the job after them, and what they print
abbrev pub first_records : (Job → RecordRun) → ℕ → RecordRun
first_records f k = run_from f k false start_job

-- the lines of the first `records` of them were taken whole, those of the next not to their end, and of those after it none
pub record Cut (f : Job → RecordRun) (j : Job) (taken : ℕ) : Type 0 where
  pub records : ℕ
  pub goes : (first_records f records).job ≡ j
  pub before : length (first_records f records).text ≤ taken
  pub within : taken < length (first_records f (suc records)).text

-- the job has run to its end, and its whole text was taken
pub record Whole (f : Job → RecordRun) (size : ℕ) (j : Job) (taken : ℕ) : Type 0 where
  pub ends : j ≡ (run_all f size).job
  pub takes : taken ≡ length (run_all f size).text

-- what became of a job: whole, or a write failed
abbrev pub Handed : (Job → RecordRun) → ℕ → Result Ran CutShort → Type 0
Handed f size r = MatchResult r (λ (w : Ran). Whole f size w.job w.taken) (λ (c : CutShort). Cut f c.ran.job c.ran.taken)

-- the first list begins the second
abbrev pub Begins : List ℕ → List ℕ → Type 0
Begins xs ys = (rest : List ℕ) × (xs ++ rest ≡ ys)
