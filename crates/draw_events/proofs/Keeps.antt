-- Proves that the events of a step leave the places past the layers as they were (01, Draw; Refill), and keep the number of places.
use Prim.Native.Nat.{ℕ, ◌<◌}
use native.Mathlib.Omega.{arith}
use mathlib.Core.Bool.{Bool, true, false}
use mathlib.Core.List.{List}
use lib.Ieee.{Float}
use Rattle.numeric.specs.Descent.{descend_keeps}
use Rattle.numeric.specs.Places.{Keeps, keeps_self, keeps_trans, keeps_set}
use Rattle.mixing.proofs.Keeps.{rearrange_keeps}
use Rattle.cylinder.specs.declared.Cylinder.{Cylinder}
use Rattle.draw_off.specs.declared.cold.Feed.{Feed}
use Rattle.draw_events.specs.declared.Totals.{Totals}
use Rattle.draw_off.specs.Draw.{extract}
use Rattle.refill.specs.Refill.{Refill, refill_layer, refill}
use Rattle.draw_events.specs.Event.{event_mixing, mixed_temps, event_of, temps_after_event}
use Rattle.refill.proofs.Descents.{lacks_none, refill_descends}

module _ (n : ℕ) (vol : List Float) (feed : Feed) (before held : List Float) where
  abbrev TempsKept : Refill → Type 0
  TempsKept r = Keeps n before r.temps

  layer_kept : (i : ℕ) (r : Refill) → i < n → TempsKept r → TempsKept (refill_layer vol feed before i r)
  unfolding refill_layer
  layer_kept i r h k = keeps_trans n before r.temps (refill_layer vol feed before i r).temps k (keeps_set n r.temps i _ h)

  refill_keeps_temps : Keeps n before (refill n vol feed before held).temps
  unfolding refill
  refill_keeps_temps =
      rw refill_descends
      (descend_keeps (lacks_none vol feed before) (refill_layer vol feed before) TempsKept n layer_kept n _ (omega arith) (keeps_self n before))

-- ---- the layers after an event, and after all

mixing_keeps : (b : Bool) (n : ℕ) (vol temps : List Float) → Keeps n temps (mixed_temps temps (event_mixing b n vol temps))
unfolding event_mixing
mixing_keeps false n vol temps = keeps_self n temps
mixing_keeps true n vol temps = rearrange_keeps n vol temps

pub event_keeps : (c : Cylinder) (vol : List Float) (feed : Feed) (wanted : Float) (temps : List Float) (t : Totals)
    → Keeps c.layers temps (temps_after_event (event_of c vol feed wanted temps t))
unfolding event_of temps_after_event
event_keeps c vol feed wanted temps t =
    let held = (extract c vol feed temps wanted t.weighted t.drawn).held in
    let filled = refill c.layers vol feed temps held in
    keeps_trans c.layers temps filled.temps _ (refill_keeps_temps c.layers vol feed temps held) (mixing_keeps filled.mixes c.layers vol filled.temps)
