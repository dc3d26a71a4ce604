-- States `calc_temps_after_extraction` (01, Refill): from the top, a layer lacking water takes from the layers below it, nearest first, then from the feed.
-- The temperatures met are those from before the event.
use Rattle.std.specs.Prelude.{ℕ, zero, suc, Bool, false, cond, ◌||◌, List, get_or, set, Float}
use Rattle.std.specs.Float.{nan}
use Rattle.numeric.specs.Double.{◌⊖◌, ◌⊛◌, ◌⊘◌}
use Rattle.cylinder.specs.Layers.{no_volume}
use Rattle.draw_off.specs.declared.cold.Feed.{Feed}
use Rattle.layer_filling.specs.Filling.{Filling, take_below, from_feed, enters_warmer}

-- where the refill has come to: what the layers hold, their new temperatures, and whether the event ends in a mixing
pub record Refill : Type 0 where
  pub held : List Float
  pub temps : List Float
  pub mixes : Bool

-- what the layer i of the volumes `vol` lacks
abbrev pub lack_of : List Float → ℕ → List Float → Float
lack_of vol i held = get_or vol i nan ⊖ get_or held i nan

module _ (vol : List Float) (feed : Feed) (before : List Float) where
  -- the layer i is filled from what it still holds; its own old temperature counts as met even when it is empty
  unfoldable pub filling_of : ℕ → List Float → Filling
  filling_of i held =
      take_below before i
      (record {
        held = held;
        lack = lack_of vol i held;
        volume = get_or held i nan;
        weighted = get_or held i nan ⊛ get_or before i nan;
        coldest = get_or before i nan;
      })

  abbrev pub filled : ℕ → Filling → Filling → Refill → Refill
  filled i below f r = record {
    held = set f.held i f.volume;
    temps = set r.temps i (f.weighted ⊘ f.volume);
    mixes = r.mixes || enters_warmer feed below;
  }

  unfoldable pub refill_layer : ℕ → Refill → Refill
  refill_layer i r = let f = filling_of i r.held in filled i f (from_feed feed f) r

  -- the layers below n, from the top; the filling ends at the first that lacks nothing
  unfoldable pub refill_layers : ℕ → Refill → Refill
  refill_layers zero r = r
  refill_layers (suc i) r = cond (no_volume (lack_of vol i r.held)) r (refill_layers i (refill_layer i r))

unfoldable pub refill : ℕ → List Float → Feed → List Float → List Float → Refill
refill n vol feed before held = refill_layers vol feed before n (record { held = held; temps = before; mixes = false })
