-- States what an accepted step answers, and what a step answers and its turns noted (01, The four calls; demand 3).
use Rattle.std.specs.Prelude.{◌≡◌, List, length, Ok}
use Rattle.tank_model.specs.declared.HeaterLine.{HeaterLine}
use Rattle.tank_model.specs.declared.Step.{Step}
use Rattle.tank_model.specs.Work.{Work, work}
use Rattle.heater_turns.specs.Notes.{no_notes, with_turns}
use Rattle.step_work.specs.declared.work.StepFigures.{StepFigures}
use Rattle.storage_tank.specs.declared.StorageTank.{StorageTank}
use Rattle.storage_tank.specs.declared.Report.{Report}
use Rattle.storage_tank.specs.declared.Stepped.{Stepped}
use Rattle.storage_tank.specs.declared.NotedStep.{NotedStep}
use Rattle.storage_tank.specs.Tank.{fixed_in, state_in}
use Rattle.storage_tank.specs.Calls.{report_by, stepped}

-- the tank that an accepted step leaves, and its report, by what the step came to and the lines that its turns noted
abbrev pub accepted_step : StorageTank → StepFigures → List HeaterLine → Stepped
accepted_step t w lines = record { outcome = Ok tt; tank = t; report = report_by w lines }

-- a step's work from this tank
abbrev pub work_of : StorageTank → Step → Work
work_of t a = work (fixed_in t) (state_in t) a

-- s is what the step answers, and what its turns noted
pub record StepNoted (t : StorageTank) (r : Report) (a : Step) (s : NotedStep) : Type 0 where
  pub answers : s.stepped ≡ stepped t r a
  pub worked : s.notes.worked ≡ length (work_of t a).turns
  pub notes : s.notes ≡ with_turns (work_of t a).turns no_notes
