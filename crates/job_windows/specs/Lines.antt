-- States what becomes of the lines of a window's record (01, Job), and where a job may stand in a window.
use Rattle.std.specs.Prelude.{ℕ, ◌+◌, ◌*◌, ◌≤◌, List, ◌≡◌, length}
use Rattle.job_lines.specs.Lengths.{max_text}
use Rattle.job_model.specs.declared.Job.{Job}
use Rattle.job_model.specs.Job.{RecordRun}
use Rattle.input_window.specs.Window.{max_window}
use Rattle.streams.specs.Whole.{Carried}
use Rattle.job_windows.specs.declared.lines.Told.{Told}

-- one record's lines, which are never long: the job after it, and all of them taken, or a write failed with some left
pub record Sends (t : RecordRun) (r : Told) : Type 0 where
  pub goes : r.job ≡ t.job
  pub told : Carried (length t.text) r.sent
  pub short : length t.text ≤ max_text

-- the job stands within the window, has counted no more steps than records can have passed, and its input is no longer than can be counted
abbrev pub InWindow : List ℕ → Job → Type 0
InWindow w j = (j.at ≤ length w) × (length w ≤ max_window) × (16 * j.steps ≤ j.before + j.at) × (j.before + length w ≤ 4611686018427387904)
