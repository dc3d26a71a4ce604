-- States what 01 says of a cylinder's layers as such (01, Tank): their volumes, and what heats one of them by a degree.
-- `vol` holds each layer's volume; today all are equal.
use Rattle.std.specs.Prelude.{ℕ, Bool, ◌||◌, List, get_or, replicate, Float}
use Rattle.std.specs.Float.{nan}
use Rattle.std.specs.Float.Ieee.{lt}
use Rattle.std.specs.Float.Ieee.Scale.{finite}
use Rattle.numeric.specs.Double.{◌⊛◌, ◌⊘◌, zero_f, whole}
use Rattle.numeric.specs.Close.{wide_close}
use Rattle.numeric.specs.Holds.{holds}
use Rattle.mixing.specs.Limits.{max_layers}
use Rattle.cylinder.specs.declared.Cylinder.{Cylinder}

-- layer volume = volume / layers
unfoldable pub layer_volume : Cylinder → Float
layer_volume c = c.volume ⊘ whole c.layers

unfoldable pub layer_volumes : Cylinder → List Float
layer_volumes c = replicate max_layers (layer_volume c)

-- density × specific heat × layer volume
abbrev pub heat_capacity : Cylinder → List Float → ℕ → Float
heat_capacity c vol k = c.rho ⊛ c.cp ⊛ get_or vol k nan

-- no volume to speak of: below zero or wide-close to 0
unfoldable pub no_volume : Float → Bool
no_volume v = lt v zero_f || wide_close v zero_f

-- each of the first n places is finite
unfoldable pub all_finite : ℕ → List Float → Bool
all_finite n xs = holds (λ (k : ℕ). finite (get_or xs k nan)) n 0
