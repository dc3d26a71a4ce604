-- Proves that a step which has passed its checks ends with 9 or 10, or is done (01, The four calls: 9 and 10 come in the order of the work; Step).
use mathlib.Core.Path.{◌≡◌, refl}
use mathlib.Core.Logic.{◌⊎◌, inl, inr}
use mathlib.Core.Bool.{Bool, true, false, cond, ◌&&◌}
use mathlib.Core.List.{List}
use Prim.Native.Nat.{ℕ}
use lib.Ieee.{Float}
use lib.Ieee.Scale.{finite}
use Rattle.mixing.specs.Rearrange.{Mixing, sorted, unsorted}
use Rattle.cylinder.specs.declared.Cylinder.{Cylinder}
use Rattle.draw_events.specs.declared.Totals.{Totals}
use Rattle.draw_events.specs.Event as Event
use Rattle.draw_events.specs.Event.{EventMixing, unmixed, mixed, Event, event_of, temps_after_event, totals_after_event, event_finite, event_number}
use Rattle.immersion_heater.specs.Turn as Turn
use Rattle.immersion_heater.specs.Turn.{Turned, turn_finite, turn_number}
use Rattle.tank_model.specs.declared.Step.{Step}
use Rattle.tank_model.specs.Fixed.{Fixed, State}
use Rattle.tank_model.specs.Order.{working_order}
use Rattle.tank_model.specs.Checks.{points_of}
use Rattle.tank_model.specs.Run.{End, refused, done}
use Rattle.tank_model.specs.Work.{DrawOff, undrawn, work_event, feed_in, wanted_volumes, events, Heating, unheated, turn_of, work_turn, turns, recoverable, close, then_turns, begin}
use Rattle.tank_model.proofs.Run.{RefusedOnly, refused_by, run_number}

abbrev pub NineOrTen : ℕ → Type 0
NineOrTen n = (n ≡ 9) ⊎ (n ≡ 10)

-- an event or a turn draws one of them, or 0 and does not end the step
abbrev Draws : ℕ → Type 0
Draws n = (n ≡ 0) ⊎ NineOrTen n

by_finite : (b : Bool) → Draws (cond b 0 10)
by_finite true = inl refl
by_finite false = inr (inr refl)

event_number_lem : (c : Cylinder) (e : Event) (t : Totals) → Draws (event_number c e t)
unfolding event_number
event_number_lem c e t = go e.mixing (event_finite c (temps_after_event e) (totals_after_event c e t))
  where
    go : (m : EventMixing) (b : Bool) → Draws (Event.number_after m b)
    go unmixed b = by_finite b
    go (mixed unsorted) b = inr (inl refl)
    go (mixed (sorted temps k)) b = by_finite b

turn_number_lem : (c : Cylinder) (u : Turned) → Draws (turn_number c u)
unfolding turn_number
turn_number_lem c u = go u.mixing (turn_finite c u)
  where
    go : (m : Mixing) (b : Bool) → Draws (Turn.number_after m b)
    go unsorted b = inr (inl refl)
    go (sorted temps k) b = by_finite b

close_number : (d : DrawOff) (x : Float) (e : End Heating) → RefusedOnly NineOrTen e → RefusedOnly NineOrTen (close d x e)
unfolding close
close_number d x (refused n) q = q
close_number d x (done s) q = refused_by NineOrTen _ _ (by_finite (finite x && finite (recoverable s)))

module _ (f : Fixed) (st : State) (a : Step) where
  one_event : (v : Float) (s : DrawOff) → Draws (work_event f (feed_in a) v s).number
  unfolding work_event
  one_event v s = event_number_lem f.cylinder (event_of f.cylinder f.vol (feed_in a) v s.temps s.totals) s.totals

  one_turn : (h : ℕ) (s : Heating) → Draws (work_turn f (points_of a) h s).number
  unfolding work_turn
  one_turn h s = turn_number_lem f.cylinder (turn_of f (points_of a) h s).turned

  events_number : RefusedOnly NineOrTen (events f a st.temps).end
  unfolding events
  events_number = run_number (work_event f (feed_in a)) NineOrTen one_event (wanted_volumes a) (undrawn st.temps)

  turns_number : (es : List Event) (e : End DrawOff) → RefusedOnly NineOrTen e → RefusedOnly NineOrTen (then_turns f st a es e).end
  unfolding then_turns
  turns_number es (refused n) q = q
  turns_number es (done d) q =
      close_number d _ _
      (unfold turns in (run_number (work_turn f (points_of a)) NineOrTen one_turn (working_order f) (unheated d.temps st.flags)))

  pub worked_number : RefusedOnly NineOrTen (begin f st a 0).end
  unfolding begin
  worked_number = turns_number _ _ events_number
