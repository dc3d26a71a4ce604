-- States what the history of a whole job prints (01, Job; demand 3): its steps' turns, and E for a refusal outside a step, as the job itself prints it.
use Rattle.std.specs.Prelude.{ℕ, List, length}
use Rattle.refusals.specs.Refusals.{number_in}
use Rattle.storage_tank.specs.Calls.{stepped}
use Rattle.job_model.specs.declared.Job.{Job}
use Rattle.job_model.specs.Job.{RecordRun, StepText, run_record, run_all}
use Rattle.job_history.specs.Facts.{step_turns, turns_of}
use Rattle.job_history.specs.Lines.{history_lines}

-- a step's history: its index, its number and its turns
unfoldable pub step_history : StepText
step_history index t r a = history_lines index (number_in (stepped t r a).outcome) (turns_of (step_turns t a))

-- the job goes on as it does when it prints its figures
abbrev pub history_record : List ℕ → Job → RecordRun
history_record = run_record step_history

abbrev pub history_run : List ℕ → RecordRun
history_run bytes = run_all (history_record bytes) (length bytes)

-- all that the history of a job prints
abbrev pub history_text : List ℕ → List ℕ
history_text bytes = (history_run bytes).text
