-- States one step's work (01, Step; Turn; refusals 9 and 10) from the fixed numbers, the state and the step's arguments, and keeps its history: the events, the
-- turns, and where it ended. The step's answer is made from that end (Calls.antt).
use Rattle.std.specs.Prelude.{ℕ, zero, suc, ◌-◌, Bool, false, cond, ◌&&◌, List, [], get_or, set, replicate, Float}
use Rattle.std.specs.Float.{nan}
use Rattle.std.specs.Float.Ieee.Scale.{finite}
use Rattle.numeric.specs.Double.{◌⊕◌, ◌⊛◌, ◌⊘◌, zero_f, three_quarters}
use Rattle.numeric.specs.Close.{wide_close}
use Rattle.numeric.specs.Tabulate.{tabulate}
use Rattle.mixing.specs.Limits.{max_layers}
use Rattle.cylinder.specs.declared.Cylinder.{Cylinder}
use Rattle.draw_events.specs.declared.Totals.{Totals}
use Rattle.draw_off.specs.declared.cold.Feed.{Feed}
use Rattle.draw_events.specs.Event.{Event, no_totals, event_of, temps_after_event, totals_after_event, event_number}
use Rattle.set_points.specs.declared.SetPoints.{SetPoints}
use Rattle.immersion_heater.specs.Turn.{Turned, turn, turn_number}
use Rattle.working_order.specs.Order.{max_heaters}
use Rattle.tank_model.specs.declared.HeaterLine.{HeaterLine}
use Rattle.tank_model.specs.declared.Step.{Step}
use Rattle.tank_model.specs.Fixed.{Fixed, State, immersion_of}
use Rattle.tank_model.specs.Order.{working_order}
use Rattle.tank_model.specs.Checks.{points_of, step_refusal}
use Rattle.tank_model.specs.Run.{End, refused, done, end_by, Worked, Run, run}

-- ---- the draw events

-- what drawing carries from event to event: the layers, and what the step has drawn
pub record DrawOff : Type 0 where
  pub temps : List Float
  pub totals : Totals

-- before the first event nothing is drawn
abbrev pub undrawn : List Float → DrawOff
undrawn temps = record { temps = temps; totals = no_totals }

abbrev pub after_event : Cylinder → Event → DrawOff → DrawOff
after_event c e s = record {
  temps = temps_after_event e;
  totals = totals_after_event c e s.totals;
}

-- the event of the volume v, with this feed
unfoldable pub work_event : Fixed → Feed → Float → DrawOff → Worked Event DrawOff
work_event f feed v s =
    let c = f.cylinder in
    let e = event_of c f.vol feed v s.temps s.totals in
    record { part = e; number = event_number c e s.totals; leaves = after_event c e s }

-- the step's feed, and the volumes of its events
abbrev pub feed_in : Step → Feed
feed_in a = record { temperature = a.feed }

abbrev pub wanted_volumes : Step → List Float
wanted_volumes a = tabulate (λ (i : ℕ). get_or a.volumes i nan) a.events 0

unfoldable pub events : Fixed → Step → List Float → Run Event DrawOff
events f a temps = run (work_event f (feed_in a)) (wanted_volumes a) (undrawn temps)

-- weighted sum / volume drawn, or the top layer after the events if that volume is wide-close to 0
unfoldable pub average_of : Cylinder → DrawOff → Float
average_of c s = cond (wide_close s.totals.drawn zero_f) (get_or s.temps (c.layers - 1) nan) (s.totals.weighted ⊘ s.totals.drawn)

-- ---- the heaters' turns

-- what heating carries from turn to turn: the layers, what each of them was charged with, the flags, the heaters' losses, and the heaters' lines
pub record Heating : Type 0 where
  pub temps : List Float
  pub charged : List Float
  pub flags : List Bool
  pub losses : Float
  pub lines : List HeaterLine

abbrev pub zero_line : HeaterLine
zero_line = record { flag = false; adjusted = zero_f; supplied = zero_f; losses = zero_f; rounds = 0 }

-- before the first turn nothing is charged
abbrev pub unheated : List Float → List Bool → Heating
unheated temps flags = record {
  temps = temps;
  charged = replicate max_layers zero_f;
  flags = flags;
  losses = zero_f;
  lines = replicate max_heaters zero_line;
}

-- a turn: whose, with which set points, the layers before it, the thermostat layer where it began, what it came to, and the thermostat layer where it ended
pub record Turn : Type 0 where
  pub heater : ℕ
  pub points : SetPoints
  pub before : List Float
  pub start : Float
  pub turned : Turned
  pub finish : Float

-- the turn of the heater given as h, with the set points that each heater has in this step
unfoldable pub turn_of : Fixed → (ℕ → SetPoints) → ℕ → Heating → Turn
turn_of f points h s =
    let c = f.cylinder in
    let x = immersion_of f h in
    let u = turn c f.vol x (points h) s.temps s.charged (get_or s.flags h false) in
    record {
      heater = h;
      points = points h;
      before = s.temps;
      start = get_or s.temps x.thermostat nan;
      turned = u;
      finish = get_or u.temps x.thermostat nan;
    }

abbrev pub line_of : Turned → HeaterLine
line_of u = record { flag = u.flag; adjusted = u.adjusted; supplied = u.supplied; losses = u.losses; rounds = u.rounds }

-- after the turn of the heater given as h, which came to u
abbrev pub after_turn : ℕ → Turned → Heating → Heating
after_turn h u s = record {
  temps = u.temps;
  charged = u.charged;
  flags = set s.flags h u.flag;
  losses = s.losses ⊕ u.losses;
  lines = set s.lines h (line_of u);
}

unfoldable pub work_turn : Fixed → (ℕ → SetPoints) → ℕ → Heating → Worked Turn Heating
work_turn f points h s =
    let u = turn_of f points h s in
    record { part = u; number = turn_number f.cylinder u.turned; leaves = after_turn h u.turned s }

unfoldable pub turns : Fixed → (ℕ → SetPoints) → List Float → List Bool → Run Turn Heating
turns f points temps flags = run (work_turn f points) (working_order f) (unheated temps flags)

-- ---- a step

-- what an accepted step came to: after its events, the average draw-off temperature, and after its turns
pub record Outcome : Type 0 where
  pub drawn : DrawOff
  pub average : Float
  pub heated : Heating

pub record Work : Type 0 where
  pub events : List Event
  pub turns : List Turn
  pub end : End Outcome

-- nothing was worked
abbrev pub stop : ℕ → Work
stop n = record { events = []; turns = []; end = refused n }

-- recoverable = the heaters' losses added plainly × 0.75
unfoldable pub recoverable : Heating → Float
recoverable s = s.losses ⊛ three_quarters

-- average or recoverable at the end
unfoldable pub close : DrawOff → Float → End Heating → End Outcome
close d x (refused n) = refused n
close d x (done s) = end_by (cond (finite x && finite (recoverable s)) 0 10) (record { drawn = d; average = x; heated = s })

-- the turns of a step whose events ended so
unfoldable pub then_turns : Fixed → State → Step → List Event → End DrawOff → Work
then_turns f st a es (refused n) = record { events = es; turns = []; end = refused n }
then_turns f st a es (done d) =
    let r = turns f (points_of a) d.temps st.flags in
    record { events = es; turns = r.parts; end = close d (average_of f.cylinder d) r.end }

-- the first refusal of the checks, and else the events and then the heaters in turn
unfoldable pub begin : Fixed → State → Step → ℕ → Work
begin f st a (suc n) = stop (suc n)
begin f st a zero = let r = events f a st.temps in then_turns f st a r.parts r.end

unfoldable pub work : Fixed → State → Step → Work
work f st a = begin f st a (step_refusal f st a)
