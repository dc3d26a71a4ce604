-- States `extract_hot_water` (01, Draw): what one event takes from the layers, from the top down, and from the feed.
use Rattle.std.specs.Prelude.{ℕ, zero, suc, Bool, cond, ◌||◌, List, get_or, set, Float}
use Rattle.std.specs.Float.{nan}
use Rattle.std.specs.Float.Ieee.{lt}
use Rattle.numeric.specs.Double.{◌⊕◌, ◌⊖◌, ◌⊛◌, zero_f}
use Rattle.numeric.specs.Close.{narrow_close}
use Rattle.numeric.specs.Tabulate.{tabulate}
use Rattle.numeric.specs.Sum2.{sum2}
use Rattle.cylinder.specs.declared.Cylinder.{Cylinder}
use Rattle.cylinder.specs.Layers.{no_volume}
use Rattle.draw_off.specs.declared.cold.Feed.{Feed}
use Rattle.draw_off.specs.Cold.{cold}

-- where an event's draw has come to: what each layer still holds, the rest wanted, the event's energy, and the weighted sum and the volume drawn of
-- the whole step so far
pub record Draw : Type 0 where
  pub held : List Float
  pub rest : Float
  pub energy : Float
  pub weighted : Float
  pub drawn : Float

-- a layer smaller than, or narrow-close to, the rest gives all; otherwise it gives the rest
unfoldable pub gives_all : Float → Float → Bool
gives_all held rest = lt held rest || narrow_close held rest

unfoldable pub share : Float → Float → Float
share held rest = cond (gives_all held rest) held rest

unfoldable pub rest_after : Float → Float → Float
rest_after held rest = cond (gives_all held rest) (rest ⊖ held) zero_f

-- the share v at temperature t, over water at the temperature `cool`: density × specific heat × share × (t - cool)
abbrev pub draw_energy : Cylinder → Float → Float → Float → Float
draw_energy c v t cool = c.rho ⊛ c.cp ⊛ v ⊛ (t ⊖ cool)

-- what adding the volume v at temperature t makes of a draw
abbrev pub counted : Cylinder → Float → Float → Float → List Float → Float → Draw → Draw
counted c v t cool held rest d = record {
  held = held;
  rest = rest;
  energy = d.energy ⊕ draw_energy c v t cool;
  weighted = d.weighted ⊕ v ⊛ t;
  drawn = d.drawn ⊕ v;
}

module _ (c : Cylinder) (feed : Feed) (temps : List Float) (wanted : Float) where
  -- the layer i gives its share
  unfoldable pub draw_share : ℕ → Draw → Draw
  draw_share i d =
      let held = get_or d.held i nan in
      let v = share held d.rest in
      counted c v (get_or temps i nan) (cold feed wanted) (set d.held i (held ⊖ v)) (rest_after held d.rest) d

  -- an emptied layer is skipped
  unfoldable pub draw_layer : ℕ → Draw → Draw
  draw_layer i d = cond (no_volume (get_or d.held i nan)) d (draw_share i d)

  -- the layers below n, from the top down, until the rest wanted is none
  unfoldable pub draw_layers : ℕ → Draw → Draw
  draw_layers zero d = d
  draw_layers (suc i) d = cond (no_volume d.rest) d (draw_layers i (draw_layer i d))

  -- of the layers below n, how many the draw does not reach: those that are left when the rest wanted is none
  unfoldable pub unreached : ℕ → Draw → ℕ
  unreached zero d = zero
  unreached (suc i) d = cond (no_volume d.rest) (suc i) (unreached i (draw_layer i d))

-- a rest above zero, however small, comes from the feed
unfoldable pub draw_feed : Cylinder → Feed → Draw → Draw
draw_feed c feed d = cond (lt zero_f d.rest) (counted c d.rest feed.temperature (cold feed d.rest) d.held d.rest d) d

-- each event starts from full layers; `weighted` and `drawn` run through all events
abbrev pub draw_start : List Float → Float → Float → Float → Draw
draw_start vol wanted weighted drawn = record { held = vol; rest = wanted; energy = zero_f; weighted = weighted; drawn = drawn }

-- what an event has drawn: the layers, and then the feed
unfoldable pub extract : Cylinder → List Float → Feed → List Float → Float → Float → Float → Draw
extract c vol feed temps wanted weighted drawn =
    draw_feed c feed (draw_layers c feed temps wanted c.layers (draw_start vol wanted weighted drawn))

-- how many layers, from the bottom, it leaves full
unfoldable pub untouched : Cylinder → List Float → Feed → List Float → Float → Float → Float → ℕ
untouched c vol feed temps wanted weighted drawn = unreached c feed temps wanted c.layers (draw_start vol wanted weighted drawn)

-- volume used: the tank's volume - Sum2 of what the layers still hold
unfoldable pub volume_used : Cylinder → List Float → Float
volume_used c held = c.volume ⊖ sum2 (tabulate (λ (k : ℕ). get_or held k nan) c.layers 0)
