-- Proves that the draw's walk from the top (01, Draw) counts down and stops where a test says so, so that its loop cites the laws of such loops.
use Prim.Native.Nat.{ℕ, zero, suc}
use mathlib.Core.Path.{◌≡◌, refl}
use mathlib.Core.Bool.{Bool}
use mathlib.Core.List.{List}
use lib.Ieee.{Float}
use Rattle.numeric.specs.Descent.{descend}
use Rattle.cylinder.specs.declared.Cylinder.{Cylinder}
use Rattle.cylinder.specs.Layers.{no_volume}
use Rattle.draw_off.specs.declared.cold.Feed.{Feed}
use Rattle.draw_off.specs.Draw.{Draw, draw_layer, draw_layers}

-- the rest wanted is none, whatever the layer
abbrev pub rest_none : ℕ → Draw → Bool
rest_none i d = no_volume d.rest

module _ (c : Cylinder) (feed : Feed) (temps : List Float) (wanted : Float) where
  pub draw_descends : (n : ℕ) (d : Draw) → draw_layers c feed temps wanted n d ≡ descend rest_none (draw_layer c feed temps wanted) n d
  unfolding draw_layers descend
  draw_descends zero d = refl
  draw_descends (suc i) d = rw (draw_descends i (draw_layer c feed temps wanted i d))
