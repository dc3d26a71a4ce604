-- States the filling of one layer (01, Refill): from the layers below it, nearest first, then from the feed.
-- The temperatures met are those from before the event.
use Rattle.std.specs.Prelude.{ℕ, zero, suc, Bool, cond, ◌&&◌, List, get_or, set, Float}
use Rattle.std.specs.Float.{nan}
use Rattle.std.specs.Float.Ieee.{lt}
use Rattle.numeric.specs.Double.{◌⊕◌, ◌⊖◌, ◌⊛◌, zero_f}
use Rattle.numeric.specs.Compare.{min_of2}
use Rattle.cylinder.specs.Layers.{no_volume}
use Rattle.draw_off.specs.declared.cold.Feed.{Feed}
use Rattle.draw_off.specs.Cold.{cold}

-- the filling of one layer: what the layers still hold, what this one lacks, the volume it has, that volume weighted by temperature, and the coldest
-- water met
pub record Filling : Type 0 where
  pub held : List Float
  pub lack : Float
  pub volume : Float
  pub weighted : Float
  pub coldest : Float

-- `before` are the temperatures from before the event
module _ (before : List Float) where
  -- the layer j gives what is lacking, or all that it holds
  unfoldable pub take_share : ℕ → Filling → Filling
  take_share j f =
      let v = min_of2 f.lack (get_or f.held j nan) in
      record {
        held = set f.held j (get_or f.held j nan ⊖ v);
        lack = f.lack ⊖ v;
        volume = f.volume ⊕ v;
        weighted = f.weighted ⊕ v ⊛ get_or before j nan;
        coldest = min_of2 (get_or before j nan) f.coldest;
      }

  -- only a layer that holds more than zero is met
  unfoldable pub take_from : ℕ → Filling → Filling
  take_from j f = cond (lt zero_f (get_or f.held j nan)) (take_share j f) f

  -- the layers below j, nearest first; a lack that is closed takes no more
  unfoldable pub take_below : ℕ → Filling → Filling
  take_below zero f = f
  take_below (suc j) f = cond (no_volume f.lack) f (take_below j (take_from j f))

-- a lack above zero enters from the feed, at cold(lack)
unfoldable pub from_feed : Feed → Filling → Filling
from_feed feed f =
    cond (lt zero_f f.lack)
    (record {
      held = f.held;
      lack = f.lack;
      volume = f.volume ⊕ f.lack;
      weighted = f.weighted ⊕ f.lack ⊛ cold feed f.lack;
      coldest = f.coldest;
    })
    f

-- the feed's water is warmer than the coldest water met
unfoldable pub enters_warmer : Feed → Filling → Bool
enters_warmer feed f = lt zero_f f.lack && lt f.coldest (cold feed f.lack)
