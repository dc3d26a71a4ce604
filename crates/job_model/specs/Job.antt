-- States a whole job (01, Job): records read one after the other, the tank made, its heaters added, its steps run, and the lines that each record prints.
use Rattle.std.specs.Prelude.{ℕ, zero, suc, ◌+◌, ◌*◌, ◌≤◌, ◌<◌, Bool, true, false, cond, not, ◌&&◌, ◌≡◌}
use Rattle.std.specs.Prelude.{List, [], ◌++◌, eqb, length, set, replicate, Result, Ok, Err}
use Rattle.numeric.specs.Double.{zero_f}
use Rattle.refusals.specs.declared.Refusal.{Refusal}
use Rattle.refusals.specs.Refusals.{number_of, number_in}
use Rattle.working_order.specs.Order.{max_heaters}
use Rattle.tank_model.specs.declared.Heater.{Heater}
use Rattle.tank_model.specs.declared.TankDesign.{TankDesign}
use Rattle.tank_model.specs.declared.Step.{Step}
use Rattle.tank_model.specs.Checks.{heaters_check}
use Rattle.tank_model.specs.Work.{zero_line}
use Rattle.storage_tank.specs.declared.StorageTank.{StorageTank}
use Rattle.storage_tank.specs.declared.Report.{Report}
use Rattle.storage_tank.specs.declared.Stepped.{Stepped}
use Rattle.storage_tank.specs.Calls.{zero_tank, made, stepped}
use Rattle.job_records.specs.declared.Before.{Before}
use Rattle.job_records.specs.declared.Record.{Record}
use Rattle.job_records.specs.declared.Record.TheVariants.{Tank, Heater as HeaterCase, Step as StepCase}
use Rattle.job_records.specs.declared.Reading.{Reading}
use Rattle.job_records.specs.Records.{design_of, read_record}
use Rattle.job_records.specs.Values.{zero_tank_record}
use Rattle.job_lines.specs.Put.{written, PutWhole}
use Rattle.job_lines.specs.Lengths.{max_text}
use Rattle.job_lines.specs.Lines.{refusal_line}
use Rattle.job_model.specs.declared.Job.{Job}
use Rattle.job_model.specs.declared.PrintedStep.{PrintedStep}
use Rattle.job_model.specs.declared.Printed.{Printed}
use Rattle.job_model.specs.StepLines.{step_lines}

-- ---- what records hold

-- one heater more, in file order
abbrev pub with_heater : TankDesign → Heater → TankDesign
with_heater d h = record d { heaters = d.heaters + 1; fitted = set d.fitted d.heaters h }

-- ---- before the first record

abbrev pub no_report : Report
no_report = record { energy = zero_f; used = zero_f; average = zero_f; recoverable = zero_f; lines = replicate max_heaters zero_line }

abbrev pub no_design : TankDesign
no_design = design_of zero_tank_record

abbrev pub start_job : Job
start_job = record { before = 0; at = 0; ended = false; has_tank = false; steps = 0; design = no_design; tank = zero_tank; report = no_report }

-- ---- one record

-- the job after a record, or after several, and what they print
pub record RecordRun : Type 0 where
  pub job : Job
  pub text : List ℕ

-- a function's answer and its lent buffer are a run's job and text, which is never long
pub record Gives (t : RecordRun) (before after : List ℕ) (r : Printed) : Type 0 where
  pub goes : r.job ≡ t.job
  pub counts : r.length ≡ length t.text
  pub prints : after ≡ written before t.text
  pub short : r.length ≤ max_text

abbrev pub ended_job : Job → Job
ended_job j = record j { ended = true }

-- the next record's start in the whole input
abbrev pub offset_of : Job → ℕ
offset_of j = j.before + j.at

-- what is counted stays far from the largest number: a step takes 16 bytes at least, and no input has 2^63
abbrev pub Countable : Job → Type 0
Countable j = (16 * j.steps ≤ offset_of j) × (offset_of j < 9223372036854775808)

-- a refusal outside a step prints its number and the record's start, and ends the program
unfoldable pub refused_run : Job → ℕ → RecordRun
refused_run j number = record { job = ended_job j; text = refusal_line number (offset_of j) }

-- a number other than 0 is a refusal
abbrev pub unless_refused : Job → ℕ → RecordRun → RecordRun
unless_refused j number t = cond (eqb number 0) t (refused_run j number)

abbrev pub with_tank : Job → ℕ → TankDesign → StorageTank → Job
with_tank j next d t = record j { at = next; has_tank = true; design = d; tank = t }

-- the tank made, or the number of make's refusal
unfoldable pub made_run : Job → ℕ → TankDesign → RecordRun
made_run j next d = let m = made d in unless_refused j (number_in m.outcome) (record { job = with_tank j next d m.tank; text = [] })

-- 2 and 5 come at the heater's record, with the newcomer in: 2 before it is fitted, 5 where the tank is made
unfoldable pub heater_run : Job → ℕ → Heater → RecordRun
heater_run j next h = unless_refused j (heaters_check (j.design.heaters + 1)) (made_run j next (with_heater j.design h))

abbrev pub after_step : Job → ℕ → StorageTank → Report → Job
after_step j next t r = record j { at = next; steps = j.steps + 1; tank = t; report = r }

-- what is printed of a step, by its index and what it finds: its figures, or its history
abbrev pub StepText : Type 0
StepText = ℕ → StorageTank → Report → Step → List ℕ

abbrev pub step_figures : StepText
step_figures index t r a = step_lines index (stepped t r a)

-- a step that is printed: what it answers, and its lines in the lent buffer
pub record StepPrinted (text : List ℕ) (s : Stepped) (before after : List ℕ) (r : PrintedStep) : Type 0 where
  pub steps : r.stepped ≡ s
  pub prints : PutWhole text before after r.length

-- a step's lines; refused or not, the job goes on and the index counts it
unfoldable pub step_run : StepText → Job → ℕ → Step → RecordRun
step_run text j next a =
    let s = stepped j.tank j.report a in
    record { job = after_step j next s.tank s.report; text = text j.steps j.tank j.report a }

-- the input's end ends the program; empty input, and any other refused record, is refused with the number of the reader's answer
unfoldable pub end_run : ℕ → Job → ℕ → RecordRun
end_run size j number = cond (eqb j.at size && not (eqb (offset_of j) 0)) (record { job = ended_job j; text = [] }) (refused_run j number)

unfoldable pub run_of : StepText → List ℕ → Job → ℕ → Result Record Refusal → RecordRun
run_of text bytes j next (Ok (Tank t)) = made_run j next (design_of t)
run_of text bytes j next (Ok (HeaterCase h)) = heater_run j next h
run_of text bytes j next (Ok (StepCase a)) = step_run text j next a
run_of text bytes j next (Err e) = end_run (length bytes) j (number_of e)

-- what came before the next record
abbrev pub came_before : Job → Before
came_before j = record { tank = j.has_tank; heaters = j.design.heaters; step = not (eqb j.steps 0) }

abbrev pub reading_of : List ℕ → Job → Reading
reading_of bytes j = read_record bytes j.at (came_before j)

-- the record that stands next, whatever is printed of a step
unfoldable pub run_record : StepText → List ℕ → Job → RecordRun
run_record text bytes j = let r = reading_of bytes j in run_of text bytes j r.next r.content

abbrev pub record_run : List ℕ → Job → RecordRun
record_run = run_record step_figures

-- ---- the whole job

-- one record, then what follows it
abbrev pub followed : RecordRun → RecordRun → RecordRun
followed t u = record { job = u.job; text = t.text ++ u.text }

-- the records from here on, so many at most: the job after them, and all that they print
unfoldable pub run_from : (Job → RecordRun) → ℕ → Bool → Job → RecordRun
run_from f zero ended j = record { job = j; text = [] }
run_from f (suc k) true j = record { job = j; text = [] }
run_from f (suc k) false j = let t = f j in followed t (run_from f k t.job.ended t.job)

-- a whole input of `size` bytes: each record but the last moves the position, so there are no more records than bytes, and one
unfoldable pub run_all : (Job → RecordRun) → ℕ → RecordRun
run_all f size = run_from f (size + 1) false start_job

abbrev pub job_run : List ℕ → RecordRun
job_run bytes = run_all (record_run bytes) (length bytes)

-- all that a job prints
abbrev pub job_text : List ℕ → List ℕ
job_text bytes = (job_run bytes).text
