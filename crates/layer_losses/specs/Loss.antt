-- States what one layer loses, and the temperature at which it ends, by what stands at it alone (01, Losses and limit).
use Rattle.std.specs.Prelude.{Bool, cond, not, ◌&&◌, Float, Option, None}
use Rattle.std.specs.Float.Ieee.{lt}
use Rattle.numeric.specs.Double.{◌⊖◌, ◌⊛◌, ◌⊘◌, zero_f, whole}
use Rattle.numeric.specs.Compare.{min_of2, max_of2}
use Rattle.numeric.specs.Close.{wide_close}
use Rattle.cylinder.specs.declared.Cylinder.{Cylinder}
use Rattle.set_points.specs.declared.SetPoints.{SetPoints}
use Rattle.set_points.specs.SetPoints.{has_upper, upper_of, given_upper}
use Rattle.layer_losses.specs.declared.LayerAfter.{LayerAfter}

-- t is above u and not wide-close to it
unfoldable pub clearly_above : Float → Float → Bool
clearly_above t u = lt u t && not (wide_close t u)

-- t is above the upper set point and not wide-close to it
unfoldable pub over_upper : SetPoints → Float → Bool
over_upper p t = has_upper p && clearly_above t (upper_of p)

-- h = (1000 × standby) / (24 × 45), the stand-by losses coefficient
unfoldable pub standby_coefficient : Cylinder → Float
standby_coefficient c = whole 1000 ⊛ c.standby ⊘ (whole 24 ⊛ whole 45)

-- below, v is a layer's volume, t its temperature after the mixing, `warm` whether it is warmed, `earlier` what earlier heaters charged it,
-- `lost` its loss, `capacity` its density × specific heat × layer volume

-- the upper set point, where there is one and the layer is warmed: it limits no other
abbrev pub limit_of : SetPoints → Bool → Option Float
limit_of p warm = cond warm (given_upper p) None

-- a warmed layer is counted at no more than the upper set point
unfoldable pub counted_temp : SetPoints → Bool → Float → Float
counted_temp p warm t = cond (has_upper p && warm) (min_of2 t (upper_of p)) t

-- (h × density × specific heat) × (layer volume / volume) × (temperature - ambient) × step length
unfoldable pub standing_loss : Cylinder → Float → Float → Float
standing_loss c v t = standby_coefficient c ⊛ c.rho ⊛ c.cp ⊛ (v ⊘ c.volume) ⊛ (t ⊖ c.ambient) ⊛ c.timestep

-- less what earlier heaters charged it, then `max_of_2` of 0 and that
unfoldable pub loss : Cylinder → Float → SetPoints → Bool → Float → Float → Float
loss c v p warm t earlier = max_of2 zero_f (standing_loss c v (counted_temp p warm t) ⊖ earlier)

-- a warmed layer over the upper set point ends exactly there; any other drops by loss / (density × specific heat × layer volume)
unfoldable pub limited_temp : SetPoints → Bool → Float → Float → Float → Float
limited_temp p warm t lost capacity = cond (warm && over_upper p t) (upper_of p) (t ⊖ lost ⊘ capacity)

-- heat - loss - heat at the set point
unfoldable pub surplus_term : SetPoints → Float → Float → Float → Float
surplus_term p t lost capacity = capacity ⊛ t ⊖ lost ⊖ capacity ⊛ upper_of p

-- what the code answers for the layer
abbrev pub layer_after : Cylinder → Float → SetPoints → Bool → Float → Float → LayerAfter
layer_after c v p warm t earlier =
    let lost = loss c v p warm t earlier in record { lost = lost; temp = limited_temp p warm t lost (c.rho ⊛ c.cp ⊛ v) }
