-- States when the run of a window of the input goes on (01, Job), and what a job leaves of the window for the next one.
use Rattle.std.specs.Prelude.{ℕ, ◌+◌, ◌-◌, Bool, not, ◌&&◌, ◌||◌, List, ◌++◌, ◌≡◌, leb, take, drop}
use Rattle.job_records.specs.Windows.{max_record}
use Rattle.job_model.specs.declared.Job.{Job}
use Rattle.job_model.specs.Windows.{moved_up}
use Rattle.input_window.specs.declared.Next.{Next}

abbrev pub max_window : ℕ
max_window = 1048576

-- the job goes on, and nothing follows the window or no record reaches past it
abbrev pub goes_on : ℕ → Bool → Bool → ℕ → Bool
goes_on size last ended at = not ended && (last || leb (at + max_record) size)

-- bytes of a buffer moved down: the first i are those from `from` on
abbrev pub moved : ℕ → List ℕ → ℕ → List ℕ
moved from xs i = take i (drop from xs) ++ drop i xs

-- the job stands at the beginning of the next window, whose first bytes are what it left of this one
abbrev pub next_window : Job → ℕ → Next
next_window j end = record { job = moved_up j; held = end - j.at }

pub record Left (before after : List ℕ) (j : Job) (end : ℕ) (r : Next) : Type 0 where
  pub next : r ≡ next_window j end
  pub down : after ≡ moved j.at before (end - j.at)
