-- States how the code holds a step's work (01, Step): where it ended, by what it answers and leaves, and what its turns noted.
use Rattle.std.specs.Prelude.{◌≡◌, Bool, List, Result, Ok, Err, Float}
use Rattle.refusals.specs.declared.Refusal.{Refusal}
use Rattle.refusals.specs.Refusals.{number_of}
use Rattle.tank_model.specs.declared.Step.{Step}
use Rattle.tank_model.specs.declared.TurnNotes.{TurnNotes}
use Rattle.tank_model.specs.Fixed.{Fixed, State}
use Rattle.tank_model.specs.Run.{refused, done}
use Rattle.tank_model.specs.Work.{Outcome, recoverable, Work, work}
use Rattle.heater_turns.specs.Notes.{with_turns}
use Rattle.heater_turns.specs.Lent.{uncounted}
use Rattle.step_work.specs.declared.work.StepFigures.{StepFigures}

abbrev pub state_of : List Float → List Bool → State
state_of temps flags = record { temps = temps; flags = flags }

-- s, which an accepted step came to, is what the code answers, leaves and has noted
pub record Left (s : Outcome) (w : StepFigures) (st : State) (x : TurnNotes) : Type 0 where
  pub temps_are : s.heated.temps ≡ st.temps
  pub totals_are : s.drawn.totals ≡ w.totals
  pub average_is : s.average ≡ w.average
  pub flags_are : s.heated.flags ≡ st.flags
  pub lines_are : s.heated.lines ≡ x.lines
  pub recoverable_is : recoverable s.heated ≡ w.recoverable

-- where the work w ended, from the state st, by what the code answers, the state that it leaves and what it has noted
abbrev pub EndedAs : Work → State → Result StepFigures Refusal → State → TurnNotes → Type 0
EndedAs w st (Err r) st' x = (w.end ≡ refused (number_of r)) × (st' ≡ st)
EndedAs w st (Ok y) st' x = (s : Outcome) × (w.end ≡ done s) × Left s y st' x

-- a step is worked, and its turns are noted in x
pub record StepWorked (f : Fixed) (st : State) (a : Step) (r : Result StepFigures Refusal) (st' : State) (x x' : TurnNotes) : Type 0 where
  pub ends : EndedAs (work f st a) st r st' x'
  pub noted : x' ≡ with_turns (work f st a).turns (uncounted x)
