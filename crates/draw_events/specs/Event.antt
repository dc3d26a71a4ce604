-- States one draw event as a whole, and the events of a step in a row (01, Draw; Refill; refusals 9 and 10): the draw, the refill, the mixing that a warm feed
-- asks for, and the number with which the event ends the step, or 0.
use Rattle.std.specs.Prelude.{ℕ, zero, suc, Bool, true, false, cond, ◌&&◌, List, [], ◌∷◌, get_or, Float}
use Rattle.std.specs.Float.{nan}
use Rattle.std.specs.Float.Ieee.Scale.{finite}
use Rattle.numeric.specs.Double.{◌⊕◌, zero_f}
use Rattle.numeric.specs.Tabulate.{tabulate}
use Rattle.mixing.specs.Rearrange.{Mixing, sorted, unsorted, rearrange}
use Rattle.mixing.specs.Mix.{temps_of}
use Rattle.cylinder.specs.declared.Cylinder.{Cylinder}
use Rattle.cylinder.specs.Layers.{all_finite}
use Rattle.draw_events.specs.declared.Totals.{Totals}
use Rattle.draw_off.specs.declared.cold.Feed.{Feed}
use Rattle.draw_off.specs.Draw.{Draw, extract, volume_used}
use Rattle.refill.specs.Refill.{Refill, refill}

-- before the first event nothing is drawn
abbrev pub no_totals : Totals
no_totals = record { energy = zero_f; used = zero_f; weighted = zero_f; drawn = zero_f }

-- an event ends in a mixing, or does not
pub data EventMixing : Type 0 where
  unmixed : EventMixing
  mixed : Mixing → EventMixing

-- the volume wanted, the layers before the event, its draw, its refill and its mixing
pub record Event : Type 0 where
  pub wanted : Float
  pub before : List Float
  pub draw : Draw
  pub refill : Refill
  pub mixing : EventMixing

-- of n layers of the volumes `vol`, where the refill says that it does
unfoldable pub event_mixing : Bool → ℕ → List Float → List Float → EventMixing
event_mixing false n vol temps = unmixed
event_mixing true n vol temps = mixed (rearrange n vol temps)

-- the event of the volume `wanted`, on the layers `temps` of the volumes `vol`, where the step has drawn `t` so far
unfoldable pub event_of : Cylinder → List Float → Feed → Float → List Float → Totals → Event
event_of c vol feed wanted temps t =
    let draw = extract c vol feed temps wanted t.weighted t.drawn in
    let filled = refill c.layers vol feed temps draw.held in
    record { wanted = wanted; before = temps; draw = draw; refill = filled; mixing = event_mixing filled.mixes c.layers vol filled.temps }

-- the layers that an event hands on
abbrev pub mixed_temps : List Float → EventMixing → List Float
mixed_temps temps unmixed = temps
mixed_temps temps (mixed x) = temps_of temps x

unfoldable pub temps_after_event : Event → List Float
temps_after_event e = mixed_temps e.refill.temps e.mixing

-- an event's energy and volume used are its own, added to the step's when it ends; the weighted sum and the volume drawn run through all events
unfoldable pub totals_after_event : Cylinder → Event → Totals → Totals
totals_after_event c e t = record {
  energy = t.energy ⊕ e.draw.energy;
  used = t.used ⊕ volume_used c e.draw.held;
  weighted = e.draw.weighted;
  drawn = e.draw.drawn;
}

-- a layer, or energy or volume used so far, after an event
unfoldable pub event_finite : Cylinder → List Float → Totals → Bool
event_finite c temps t = all_finite c.layers temps && finite t.energy && finite t.used

-- 9 for a mixing out of order, which comes before 10 for what is not finite
abbrev pub number_after : EventMixing → Bool → ℕ
number_after unmixed finite = cond finite 0 10
number_after (mixed unsorted) finite = 9
number_after (mixed (sorted temps k)) finite = cond finite 0 10

unfoldable pub event_number : Cylinder → Event → Totals → ℕ
event_number c e t = number_after e.mixing (event_finite c (temps_after_event e) (totals_after_event c e t))

-- ---- the events of a step

-- where the events have come to: the number of a refusal or 0, the layers, and what the step has drawn
pub record Drawing : Type 0 where
  pub number : ℕ
  pub temps : List Float
  pub totals : Totals

-- the volumes of n events, in the first of these places
abbrev pub first_volumes : ℕ → List Float → List Float
first_volumes n volumes = tabulate (λ (i : ℕ). get_or volumes i nan) n 0

-- where the events of the volumes vs come to, from where those before them came to; a refused event ends them
unfoldable pub draw_all : Cylinder → List Float → Feed → List Float → ℕ → List Float → Totals → Drawing
draw_all c vol feed [] n temps t = record { number = n; temps = temps; totals = t }
draw_all c vol feed (v ∷ vs) (suc n) temps t = record { number = suc n; temps = temps; totals = t }
draw_all c vol feed (v ∷ vs) zero temps t =
    let e = event_of c vol feed v temps t in
    draw_all c vol feed vs (event_number c e t) (temps_after_event e) (totals_after_event c e t)
