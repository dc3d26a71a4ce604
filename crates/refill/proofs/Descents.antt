-- Proves that the refill's two walks from the top (01, Refill) count down and stop where a test says so, so that their loops cite the laws of such loops.
use Prim.Native.Nat.{ℕ, zero, suc}
use mathlib.Core.Path.{◌≡◌, refl}
use mathlib.Core.Bool.{Bool}
use mathlib.Core.List.{List}
use lib.Ieee.{Float}
use Rattle.numeric.specs.Descent.{descend}
use Rattle.cylinder.specs.Layers.{no_volume}
use Rattle.draw_off.specs.declared.cold.Feed.{Feed}
use Rattle.layer_filling.specs.Filling.{Filling, take_from, take_below}
use Rattle.refill.specs.Refill.{Refill, lack_of, refill_layer, refill_layers}

-- the lack is closed, whatever the donor
abbrev pub lack_none : ℕ → Filling → Bool
lack_none j f = no_volume f.lack

pub donors_descend : (before : List Float) (n : ℕ) (f : Filling) → take_below before n f ≡ descend lack_none (take_from before) n f
unfolding take_below descend
donors_descend before zero f = refl
donors_descend before (suc j) f = rw (donors_descend before j (take_from before j f))

module _ (vol : List Float) (feed : Feed) (before : List Float) where
  -- the layer i lacks nothing
  abbrev pub lacks_none : ℕ → Refill → Bool
  lacks_none i r = no_volume (lack_of vol i r.held)

  pub refill_descends : (n : ℕ) (r : Refill) → refill_layers vol feed before n r ≡ descend lacks_none (refill_layer vol feed before) n r
  unfolding refill_layers descend
  refill_descends zero r = refl
  refill_descends (suc i) r = rw (refill_descends i (refill_layer vol feed before i r))
