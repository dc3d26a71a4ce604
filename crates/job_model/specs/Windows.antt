-- States a job that is read window by window (01, Job), for an input that is too long to be held at once: what each window prints, and all of them together.
use Rattle.std.specs.Prelude.{ℕ, zero, suc, ◌+◌, ◌≤◌, ◌<◌, Bool, true, false, cond, not, ◌&&◌, ◌≡◌}
use Rattle.std.specs.Prelude.{List, [], ◌++◌, length, Result, Ok, Err, MatchResult}
use Rattle.job_records.specs.Windows.{Window, is_ready}
use Rattle.job_model.specs.declared.Job.{Job}
use Rattle.job_model.specs.declared.Ran.{Ran}
use Rattle.job_model.specs.declared.CutShort.{CutShort}
use Rattle.job_model.specs.Job.{RecordRun, start_job, offset_of, followed}

-- a job that stands in a window, seen from the whole input
abbrev pub in_whole : Job → Job
in_whole j = record j { before = 0; at = offset_of j }

abbrev pub run_in_whole : RecordRun → RecordRun
run_in_whole t = record { job = in_whole t.job; text = t.text }

-- the next window begins at the next record
abbrev pub moved_up : Job → Job
moved_up j = record j { before = offset_of j; at = 0 }

-- records one after the other, as long as the job goes on and the next one can be read, so many at most
unfoldable pub run_ready : (Job → RecordRun) → (ℕ → Bool) → ℕ → Job → RecordRun
run_ready f ready zero j = record { job = j; text = [] }
run_ready f ready (suc n) j =
    cond (not j.ended && ready j.at)
    (let t = f j in followed t (run_ready f ready n t.job))
    (record { job = j; text = [] })

-- the run has come to its end: the job has ended, or the next record cannot be read here
abbrev pub Stops : (ℕ → Bool) → RecordRun → Type 0
Stops ready t = (not t.job.ended && ready t.job.at) ≡ false

-- n of a window's records, or all of them; `f` is what a record of these bytes does: print its figures, or its history
abbrev pub window_records : (List ℕ → Job → RecordRun) → List ℕ → Bool → ℕ → Job → RecordRun
window_records f w last n j = run_ready (f w) (is_ready w last) n j

abbrev pub window_run : (List ℕ → Job → RecordRun) → List ℕ → Bool → Job → RecordRun
window_run f w last j = window_records f w last (length w + 1) j

-- the lines of so many records were taken, and no other can be read here
pub record WholeRecords (f : Job → RecordRun) (ready : ℕ → Bool) (records : ℕ) (j : Job) (taken : ℕ) : Type 0 where
  pub takes : length (run_ready f ready records j).text ≡ taken
  pub stops : Stops ready (run_ready f ready records j)

-- the lines of so many records were taken, and those of the next one not to their end
pub record CutRecords (f : Job → RecordRun) (ready : ℕ → Bool) (records : ℕ) (j : Job) (taken : ℕ) : Type 0 where
  pub before : length (run_ready f ready records j).text ≤ taken
  pub within : taken < length (run_ready f ready (suc records) j).text

abbrev pub ran_of : Result Ran CutShort → Ran
ran_of (Ok w) = w
ran_of (Err c) = c.ran

-- a window's records were run, and their lines taken: all of them; or a write failed
pub record WindowHanded (f : Job → RecordRun) (ready : ℕ → Bool) (j : Job) (r : Result Ran CutShort) : Type 0 where
  pub records : ℕ
  pub goes : (run_ready f ready records j).job ≡ (ran_of r).job
  pub told : MatchResult r (λ (w : Ran). WholeRecords f ready records j w.taken) (λ (c : CutShort). CutRecords f ready records j c.ran.taken)

-- an input told window by window: where the job stands after some windows, and all that they printed; each window's bytes are those of the input from the
-- next record on, and the last is so called only if nothing follows it
pub data Windowed (f : List ℕ → Job → RecordRun) (s : List ℕ) : Job → List ℕ → Type 0 where
  begun : Windowed f s start_job []
  another : (j : Job) (text : List ℕ) → Windowed f s j text → (w : List ℕ) (last : Bool) → Window s j.before w
      → (last ≡ true → j.before + length w ≡ length s) → (n : ℕ)
      → Windowed f s (moved_up (window_records f w last n j).job) (text ++ (window_records f w last n j).text)
