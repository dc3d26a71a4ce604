-- States how the code holds what the events come to (01, Draw; Refill): the layers in a lent array, the totals in a lent struct, the number in a Result.
use Rattle.std.specs.Prelude.{ℕ, ◌≡◌, true, List, Result, Float}
use Rattle.refusals.specs.declared.Refusal.{Refusal}
use Rattle.refusals.specs.Refusals.{number_in}
use Rattle.cylinder.specs.declared.Cylinder.{Cylinder}
use Rattle.draw_events.specs.declared.Totals.{Totals}
use Rattle.draw_events.specs.Event.{EventMixing, Event, Drawing, mixed_temps, number_after, event_number, temps_after_event, totals_after_event}

-- `MAX_EVENTS` of the code (01, refusal 6)
abbrev pub max_events : ℕ
max_events = 64

-- the mixing m that ends an event on the layers `temps`, or none, is worked: the number that it draws or 0, and the layers that it hands on
pub record MixingWorked (m : EventMixing) (temps : List Float) (number : ℕ) (after : List Float) : Type 0 where
  pub draws : number ≡ number_after m true
  pub leaves : after ≡ mixed_temps temps m

-- where the events have come to: the layers, what the code answers, and what the step has drawn
abbrev pub drawing_of : List Float → Result (Unit {0}) Refusal → Totals → Drawing
drawing_of temps answer t = record { number = number_in answer; temps = temps; totals = t }

-- where the event e has come to, where the step had drawn t before it
abbrev pub drawing_after : Cylinder → Event → Totals → Drawing
drawing_after c e t = record { number = event_number c e t; temps = temps_after_event e; totals = totals_after_event c e t }
