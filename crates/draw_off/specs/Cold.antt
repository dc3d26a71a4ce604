-- States the temperature of cold water (01, Arithmetic underneath): the source answers one pair, (feed temperature, volume wanted), to both of its calls.
-- What a feed is, only this file, `draw_feed` (Draw.antt) and the struct of src/cold.rt know.
use Rattle.std.specs.Prelude.{[], ◌∷◌, Float}
use Rattle.numeric.specs.Double.{◌⊛◌, ◌⊘◌}
use Rattle.numeric.specs.Sum2.{sum2}
use Rattle.draw_off.specs.declared.cold.Feed.{Feed}

-- Cold(v): Sum2 of the one term feed × v over Sum2 of v, which need not be the feed's own temperature
unfoldable pub cold : Feed → Float → Float
cold feed v = sum2 (feed.temperature ⊛ v ∷ []) ⊘ sum2 (v ∷ [])
