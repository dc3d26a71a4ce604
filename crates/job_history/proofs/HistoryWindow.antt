-- Proves that the history of a job goes from record to record as the job itself does, ends, and told window by window is that of the whole job (01, Job;
-- demand 3).
use Prim.Native.Nat.{ℕ}
use mathlib.Core.Bool.{true}
use mathlib.Core.List.{List}
use mathlib.Core.Path.{◌≡◌}
use lib.ListN.{length}
use Rattle.job_records.specs.Windows.{AreBytes}
use Rattle.job_model.specs.declared.Job.{Job}
use Rattle.job_model.specs.Job.{step_figures, record_run}
use Rattle.job_model.specs.Windows.{window_run, Windowed}
use Rattle.job_model.proofs.Moves.{record_moves, same_job}
use Rattle.job_model.proofs.Ends.{run_ends}
use Rattle.job_model.proofs.Windowed.{record_windows, windowed_whole, last_window_ends}
use Rattle.job_history.specs.History.{step_history, history_record, history_run, history_text}

-- the job after a record is the same
pub history_job : (bytes : List ℕ) (j : Job) → (history_record bytes j).job ≡ (record_run bytes j).job
history_job bytes j = same_job step_history step_figures bytes j

pub history_ends : (bytes : List ℕ) → (history_run bytes).job.ended ≡ true
history_ends bytes = run_ends (history_record bytes) (length bytes) (λ j. record_moves j _ bytes)

-- a history that is told window by window to its end is the whole history
pub history_windowed : (s : List ℕ) → AreBytes s → (j : Job) (text : List ℕ) → Windowed history_record s j text → j.ended ≡ true → text ≡ history_text s
history_windowed s bytes = windowed_whole history_record s (record_windows step_history s bytes)

-- and the last window takes it to its end
pub history_last_ends : (s : List ℕ) → AreBytes s → (j : Job) (text : List ℕ) → Windowed history_record s j text → (w : List ℕ) → (window_run history_record w true j).job.ended ≡ true
history_last_ends s bytes = last_window_ends history_record s (record_windows step_history s bytes)
