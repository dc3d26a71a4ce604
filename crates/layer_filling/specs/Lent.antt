-- States how the code holds the filling of a layer (01, Refill): the layers in lent arrays, the numbers beside them in a small struct.
use Rattle.std.specs.Prelude.{List, Float}
use Rattle.numeric.specs.Double.{◌⊖◌, ◌⊛◌}
use Rattle.layer_filling.specs.declared.LayerFilling.{LayerFilling}
use Rattle.layer_filling.specs.Filling.{Filling}

-- the filling of a layer: what the layers still hold, and its numbers
abbrev pub filling_with : List Float → LayerFilling → Filling
filling_with held f = record { held = held; lack = f.lack; volume = f.volume; weighted = f.weighted; coldest = f.coldest }

-- a layer that takes `full` still holds `held` at temperature t
abbrev pub start_filling : Float → Float → Float → LayerFilling
start_filling full held t = record { lack = full ⊖ held; volume = held; weighted = held ⊛ t; coldest = t }
