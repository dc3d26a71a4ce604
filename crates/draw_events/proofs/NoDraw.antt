-- Proves what is left where nothing is drawn (01, Draw; Refill): with no events nothing changes; an event of 0 leaves the layers, adds no energy, and uses the
-- tank's volume - Sum2 of the full layers, which need not be 0.
use Prim.Native.Nat.{ℕ, zero, suc, ◌≤◌, ◌<◌}
use native.Mathlib.Omega.{arith}
use mathlib.Core.Bool.{true, false}
use mathlib.Core.Path.{◌≡◌, refl}
use mathlib.Core.List.{List, []}
use lib.ListN.{get_or}
use lib.Ieee.{Float, nan, lt, eq, add, sub, div, neg, of_bits, of_int}
use lib.Ieee.Scale.{finite}
use Rattle.numeric.specs.Double.{dbl, whole, ◌⊕◌, ◌⊖◌, zero_f}
use Rattle.numeric.specs.Close.{close, wide_close}
use Rattle.numeric.specs.Tabulate.{tabulate}
use Rattle.numeric.specs.Sum2.{accumulate, accumulate_all, sum2}
use Rattle.numeric.proofs.Difference.{minus_self}
use Rattle.cylinder.specs.declared.Cylinder.{Cylinder}
use Rattle.cylinder.specs.Layers.{layer_volume, layer_volumes, no_volume}
use Rattle.draw_off.specs.declared.cold.Feed.{Feed}
use Rattle.draw_events.specs.declared.Totals.{Totals}
use Rattle.draw_off.specs.Draw.{Draw, draw_layers, draw_feed, extract, volume_used}
use Rattle.refill.specs.Refill.{refill_layers, refill}
use Rattle.draw_events.specs.Event.{unmixed, event_mixing, event_of, temps_after_event, totals_after_event, draw_all}

pub no_events : (c : Cylinder) (vol : List Float) (feed : Feed) (temps : List Float) (t : Totals)
    → draw_all c vol feed [] 0 temps t ≡ record { number = 0; temps = temps; totals = t }
unfolding draw_all
no_events c vol feed temps t = refl

-- a volume that draws nothing: no volume to speak of, and not above zero
pub record DrawsNothing (wanted : Float) : Type 0 where
  pub none : no_volume wanted ≡ true
  pub rest : lt zero_f wanted ≡ false

-- 0 does, of either sign
pub zero_draws_nothing : DrawsNothing zero_f
unfolding no_volume wide_close close lt eq of_bits
zero_draws_nothing = record { none = refl; rest = refl }

pub minus_zero_draws_nothing : DrawsNothing (neg zero_f)
unfolding no_volume wide_close close lt eq neg of_bits
minus_zero_draws_nothing = record { none = refl; rest = refl }

-- the layers stay full, and no energy is drawn
module _ (c : Cylinder) (vol : List Float) (feed : Feed) (temps : List Float) (wanted : Float) (z : DrawsNothing wanted) where
  layers_full : (n : ℕ) (d : Draw) → d.rest ≡ wanted → draw_layers c feed temps wanted n d ≡ d
  unfolding draw_layers
  layers_full zero d e = refl
  layers_full (suc i) d e = rw (e, z.none)

  pub extract_nothing : (weighted drawn : Float) → extract c vol feed temps wanted weighted drawn ≡ record { held = vol; rest = wanted; energy = zero_f; weighted = weighted; drawn = drawn }
  unfolding extract draw_feed
  extract_nothing weighted drawn =
      let start : Draw = record { held = vol; rest = wanted; energy = zero_f; weighted = weighted; drawn = drawn } in
      rw (layers_full c.layers start refl, z.rest)

-- full layers take nothing, where each has a finite volume
module _ (c : Cylinder) (vol : List Float) (f : (i : ℕ) → i < c.layers → finite (get_or vol i nan) ≡ true) where
  full : (i : ℕ) → i < c.layers → no_volume (get_or vol i nan ⊖ get_or vol i nan) ≡ true
  unfolding no_volume wide_close close lt eq of_bits
  full i h = rw (minus_self (get_or vol i nan) (f i h))

  refill_nothing : (n : ℕ) (feed : Feed) (temps : List Float) → n ≤ c.layers → refill n vol feed temps vol ≡ record { held = vol; temps = temps; mixes = false }
  unfolding refill refill_layers
  refill_nothing zero feed temps h = refl
  refill_nothing (suc i) feed temps h = rw (full i (omega arith))

  -- the law
  module _ (feed : Feed) (temps : List Float) (wanted : Float) (z : DrawsNothing wanted) (t : Totals) where
    pub event_of_nothing : event_of c vol feed wanted temps t ≡ record {
      wanted = wanted;
      before = temps;
      draw = record { held = vol; rest = wanted; energy = zero_f; weighted = t.weighted; drawn = t.drawn };
      refill = record { held = vol; temps = temps; mixes = false };
      mixing = unmixed;
    }
    unfolding event_of event_mixing
    event_of_nothing = rw (extract_nothing c vol feed temps wanted z t.weighted t.drawn, refill_nothing c.layers feed temps (omega arith))

    pub nothing_leaves_temps : temps_after_event (event_of c vol feed wanted temps t) ≡ temps
    unfolding temps_after_event
    nothing_leaves_temps = rw event_of_nothing

    pub nothing_adds : totals_after_event c (event_of c vol feed wanted temps t) t ≡ record {
      energy = t.energy ⊕ zero_f;
      used = t.used ⊕ (c.volume ⊖ sum2 (tabulate (λ (k : ℕ). get_or vol k nan) c.layers 0));
      weighted = t.weighted;
      drawn = t.drawn;
    }
    unfolding totals_after_event volume_used
    nothing_adds = rw event_of_nothing

-- 25 litres in 11 layers: the full layers' Sum2 is more than the tank's volume by 2^-48
abbrev eleven_layers : Cylinder
eleven_layers = record { layers = 11; volume = whole 25; standby = zero_f; rho = whole 1; cp = whole 1; ambient = zero_f; timestep = whole 1 }

pub used_need_not_be_zero : volume_used eleven_layers (layer_volumes eleven_layers) ≡ dbl 0xbcf0_0000_0000_0000
unfolding volume_used layer_volumes layer_volume tabulate sum2 accumulate_all accumulate of_int of_bits add sub div
used_need_not_be_zero = refl
