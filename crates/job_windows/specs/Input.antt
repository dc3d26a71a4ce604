-- States what becomes of a window of standard input (01, Job), whatever was read into it: the bytes that it held stay its first, its records are run, and the
-- rest of it begins the next window.
use Rattle.std.specs.Prelude.{ℕ, ◌+◌, ◌*◌, ◌-◌, ◌≤◌, true, List, ◌≡◌, Result, IfOk, ltb, length, take, drop}
use Rattle.job_records.specs.Windows.{Window, is_ready}
use Rattle.job_model.specs.declared.Job.{Job}
use Rattle.job_model.specs.Job.{RecordRun}
use Rattle.job_model.specs.Windows.{moved_up, window_records, Stops}
use Rattle.streams.specs.declared.Broken.{Broken}
use Rattle.input_window.specs.declared.Next.{Next}
use Rattle.input_window.specs.Window.{max_window}

-- a window is begun: so many bytes are held of it, and the job stands at its beginning
abbrev pub Open : List ℕ → ℕ → Job → Type 0
Open buf held j =
    (length buf ≡ max_window) × (held ≤ max_window) × (j.at ≡ 0) × (16 * j.steps ≤ j.before) × (j.before + max_window ≤ 4611686018427387904)

-- how the window w was taken, called the last where it is not full: after n records, where the job ends or the next cannot be read in w, the job stands at the
-- beginning of the next window, which is what is left of w
pub record Taken (f : List ℕ → Job → RecordRun) (held : ℕ) (before after : List ℕ) (j : Job) (r : Next) : Type 0 where
  pub w : List ℕ
  pub records : ℕ
  pub keeps : take held w ≡ take held before
  pub fits : length w ≤ max_window
  pub goes : r.job ≡ moved_up (window_records f w (ltb (length w) max_window) records j).job
  pub stops : Stops (is_ready w (ltb (length w) max_window)) (window_records f w (ltb (length w) max_window) records j)
  pub stays : (window_records f w (ltb (length w) max_window) records j).job.before ≡ j.before
  pub within : (window_records f w (ltb (length w) max_window) records j).job.at ≤ length w
  pub leaves : take r.held after ≡ drop (window_records f w (ltb (length w) max_window) records j).job.at w
  pub holds : r.held ≡ length w - (window_records f w (ltb (length w) max_window) records j).job.at
  pub counted : 16 * r.job.steps ≤ r.job.before

pub record WindowTaken (f : List ℕ → Job → RecordRun) (held : ℕ) (before after : List ℕ) (j : Job) (r : Result Next Broken) : Type 0 where
  pub size : length after ≡ length before
  pub taken : IfOk r (λ (n : Next). Taken f held before after j n)

-- what the system is taken to do: after the bytes held come the next ones of the input, and a window is left short only where the input ends
pub record Fed (s : List ℕ) (k held : ℕ) (w : List ℕ) : Type 0 where
  pub longer : held ≤ length w
  pub next : Window s (k + held) (drop held w)
  pub short : ltb (length w) max_window ≡ true → k + length w ≡ length s
