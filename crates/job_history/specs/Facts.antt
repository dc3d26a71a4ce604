-- States what is told of a step's turns (01, Turn; demand 3): the raw facts of each, in working order, refused steps as far as they got.
use Rattle.std.specs.Prelude.{false, List, [], ◌∷◌, length, replicate}
use Rattle.numeric.specs.Double.{zero_f}
use Rattle.numeric.specs.Copy.{copied}
use Rattle.set_points.specs.declared.SetPoints.TheVariants.{Neither}
use Rattle.working_order.specs.Order.{max_heaters}
use Rattle.tank_model.specs.declared.Step.{Step}
use Rattle.tank_model.specs.Work.{Turn, Work, work}
use Rattle.tank_model.specs.History.{Call, step}
use Rattle.storage_tank.specs.declared.StorageTank.{StorageTank}
use Rattle.storage_tank.specs.declared.Report.{Report}
use Rattle.storage_tank.specs.Tank.{fixed_in, state_in}
use Rattle.storage_tank.specs.Calls.{stepped}
use Rattle.job_history.specs.declared.TurnFact.{TurnFact}
use Rattle.job_history.specs.declared.Turns.{Turns}

abbrev pub fact_of : Turn → TurnFact
fact_of u = record {
  heater = u.heater;
  points = u.points;
  start = u.start;
  finish = u.finish;
  ran = u.turned.ran;
  flag = u.turned.flag;
  supplied = u.turned.supplied;
  rounds = u.turned.rounds;
}

unfoldable pub facts_of : List Turn → List TurnFact
facts_of [] = []
facts_of (u ∷ us) = fact_of u ∷ facts_of us

-- the turns of a step from this tank
unfoldable pub step_turns : StorageTank → Step → List TurnFact
step_turns t a = facts_of (work (fixed_in t) (state_in t) a).turns

-- a place of no turn
abbrev pub no_fact : TurnFact
no_fact = record { heater = 0; points = Neither; start = zero_f; finish = zero_f; ran = false; flag = false; supplied = zero_f; rounds = 0 }

abbrev pub no_facts : List TurnFact
no_facts = replicate max_heaters no_fact

abbrev pub turns_of : List TurnFact → Turns
turns_of us = record { count = length us; facts = copied (length us) us no_facts }

-- ---- a list of steps

-- what is told of each step, each from the tank and the report that the one before handed back
unfoldable pub told_from : StorageTank → Report → List Step → List (List TurnFact)
told_from t r [] = []
told_from t r (a ∷ more) = let y = stepped t r a in step_turns t a ∷ told_from y.tank y.report more

-- the turns of each work of a history
unfoldable pub work_facts : List Work → List (List TurnFact)
work_facts [] = []
work_facts (w ∷ ws) = facts_of w.turns ∷ work_facts ws

unfoldable pub calls : List Step → List Call
calls [] = []
calls (a ∷ more) = step a ∷ calls more
