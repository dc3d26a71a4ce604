-- States what is told of a step's turns by what its work noted (01, Turn).
use Rattle.std.specs.Prelude.{ℕ, ◌≤◌, ◌≡◌, List, map, get_or, length, take}
use Rattle.set_points.specs.declared.SetPoints.{SetPoints}
use Rattle.set_points.specs.declared.SetPoints.TheVariants.{Neither}
use Rattle.working_order.specs.Order.{max_heaters}
use Rattle.tank_model.specs.declared.HeaterLine.{HeaterLine}
use Rattle.tank_model.specs.declared.Step.{Step}
use Rattle.tank_model.specs.declared.TurnCourse.{TurnCourse}
use Rattle.tank_model.specs.declared.TurnNotes.{TurnNotes}
use Rattle.tank_model.specs.Work.{zero_line}
use Rattle.heater_turns.specs.Notes.{no_course, no_notes, with_turns}
use Rattle.storage_tank.specs.declared.Report.{Report}
use Rattle.storage_tank.specs.declared.StorageTank.{StorageTank}
use Rattle.storage_tank.specs.Answers.{work_of}
use Rattle.storage_tank.specs.Calls.{stepped}
use Rattle.job_history.specs.declared.ToldStep.{ToldStep}
use Rattle.job_history.specs.declared.TurnFact.{TurnFact}
use Rattle.job_history.specs.declared.Turns.{Turns}
use Rattle.job_history.specs.Facts.{step_turns, turns_of}

-- the turn of the heater given as h, which had the set points p and left the line l and the course c
abbrev pub fact_by : ℕ → SetPoints → HeaterLine → TurnCourse → TurnFact
fact_by h p l c = record {
  heater = h;
  points = p;
  start = c.start;
  finish = c.finish;
  ran = c.ran;
  flag = l.flag;
  supplied = l.supplied;
  rounds = l.rounds;
}

abbrev pub fact_in : List SetPoints → TurnNotes → ℕ → TurnFact
fact_in settings x h = fact_by h (get_or settings h Neither) (get_or x.lines h zero_line) (get_or x.courses h no_course)

-- the turns of the first `count` heaters of an order
abbrev pub facts_in : List SetPoints → TurnNotes → ℕ → List ℕ → List TurnFact
facts_in settings x count order = map (fact_in settings x) (take count order)

-- what was noted of a step's turns, and how many there were
pub record NotedTurns (t : StorageTank) (a : Step) (x : TurnNotes) : Type 0 where
  pub many : x.worked ≡ length (work_of t a).turns
  pub notes : x ≡ with_turns (work_of t a).turns no_notes

-- r tells these turns, of which there are no more than heaters
pub record TurnsTold (us : List TurnFact) (r : Turns) : Type 0 where
  pub tells : r ≡ turns_of us
  pub few : r.count ≤ max_heaters

-- a tank is stepped, and the step's turns are told
pub record StepTold (t : StorageTank) (report : Report) (a : Step) (r : ToldStep) : Type 0 where
  pub steps : r.stepped ≡ stepped t report a
  pub turns : TurnsTold (step_turns t a) r.turns
