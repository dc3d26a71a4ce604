-- `draw::extract_hot_water` meets its contract (01, Draw): the layers from full ones, and then the feed.
use Rattle.draw_off.specs.Draw.{extract, untouched}
use Rattle.draw_off.proofs.draw.extract_hot_water.Goals as goal

pub returns : goal.returns
unfolding extract untouched
returns c =
    let layers = c.draw_layers-d.ensures in
    record { drawn = rw (← layers.drawn) (c.draw_feed-all.ensures _); left = layers.left }
