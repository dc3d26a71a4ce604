-- States how the code holds a step's turns (01, Step; Turn): the layers, the charged losses, the flags and the heaters' losses in a state, the lines in what
-- the turns note, the number of a refusal in what its parts answer.
use Rattle.std.specs.Prelude.{ℕ, ◌≡◌, Bool, false, List, get_or, replicate, Float}
use Rattle.std.specs.Float.{nan}
use Rattle.numeric.specs.Double.{zero_f}
use Rattle.mixing.specs.Limits.{max_layers}
use Rattle.cylinder.specs.declared.Cylinder.{Cylinder}
use Rattle.set_points.specs.declared.SetPoints.{SetPoints}
use Rattle.set_points.specs.declared.SetPoints.TheVariants.{Neither}
use Rattle.immersion_heater.specs.declared.turn.Immersion.{Immersion}
use Rattle.immersion_heater.specs.Turn.{turn, turn_number}
use Rattle.tank_model.specs.declared.Heater.{Heater}
use Rattle.tank_model.specs.declared.TurnNotes.{TurnNotes}
use Rattle.tank_model.specs.Fixed.{placed, immersed, placed_heaters, Fixed}
use Rattle.tank_model.specs.Run.{End, end_by, Run, run}
use Rattle.tank_model.specs.Work.{Heating, Turn, after_turn, work_turn}
use Rattle.heater_turns.specs.declared.TurnState.{TurnState}
use Rattle.heater_turns.specs.Notes.{with_turn, with_turns}

-- the heater x in a tank of n layers
abbrev pub immersion : ℕ → Heater → Immersion
immersion n x = immersed n (placed x)

-- what make fixed, by what is lent: the cylinder, the layers' volumes and the heaters
abbrev pub fixed_lent : Cylinder → List Float → ℕ → List Heater → Fixed
fixed_lent c vol n fitted = record { cylinder = c; vol = vol; heaters = placed_heaters n fitted }

-- the set points of each heater
abbrev pub points_in : List SetPoints → ℕ → SetPoints
points_in settings h = get_or settings h Neither

-- before the first turn
abbrev pub unheated : List Float → List Bool → TurnState
unheated temps flags = record { layers = record { temps = temps; charged = replicate max_layers zero_f }; flags = flags; losses = zero_f }

abbrev pub uncounted : TurnNotes → TurnNotes
uncounted x = record { lines = x.lines; courses = x.courses; worked = 0 }

-- what heating has come to, as the code holds it
abbrev pub heating_in : TurnState → TurnNotes → Heating
heating_in s x = record { temps = s.layers.temps; charged = s.layers.charged; flags = s.flags; losses = s.losses; lines = x.lines }

-- ---- turns that are worked

-- the turn of the immersion heater i, given as h, with these set points
abbrev pub turn_from : Cylinder → List Float → Immersion → ℕ → SetPoints → Heating → Turn
turn_from c vol i h p s =
    let u = turn c vol i p s.temps s.charged (get_or s.flags h false) in
    record {
      heater = h;
      points = p;
      before = s.temps;
      start = get_or s.temps i.thermostat nan;
      turned = u;
      finish = get_or u.temps i.thermostat nan;
    }

-- the turn u is worked from s to s', noted, and draws this number
pub record TurnWorked (c : Cylinder) (u : Turn) (s : Heating) (x : TurnNotes) (number : ℕ) (s' : Heating) (x' : TurnNotes) : Type 0 where
  pub number_is : number ≡ turn_number c u.turned
  pub leaves : s' ≡ after_turn u.heater u.turned s
  pub notes : x' ≡ with_turn u x

-- where turns ended, and what they noted
pub record TurnsEnd : Type 0 where
  pub end : End Heating
  pub notes : TurnNotes

-- after turns that noted x, those of the run r
abbrev pub turns_by : TurnNotes → Run Turn Heating → TurnsEnd
turns_by x r = record { end = r.end; notes = with_turns r.parts x }

-- the turns of the heaters hs are worked from s to s', or up to the one that ends them
abbrev pub TurnsWorked : Fixed → List SetPoints → List ℕ → Heating → TurnNotes → ℕ → Heating → TurnNotes → Type 0
TurnsWorked f settings hs s x number s' x' =
    turns_by x (run (work_turn f (points_in settings)) hs s) ≡ record { end = end_by number s'; notes = x' }
