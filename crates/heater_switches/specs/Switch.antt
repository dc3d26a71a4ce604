-- States the two switches of a heater (01, Switch-on; Supply and switch-off): `determine_heat_source_switch_on` and `.._switch_off`.
-- `t` is the temperature of the thermostat layer.
use Rattle.std.specs.Prelude.{Bool, true, false, cond, not, ◌||◌, Float}
use Rattle.std.specs.Float.Ieee.{lt}
use Rattle.numeric.specs.Close.{narrow_close}
use Rattle.set_points.specs.declared.SetPoints.{SetPoints}
use Rattle.set_points.specs.declared.SetPoints.TheVariants.{Neither, Lower, Upper, Both}
use Rattle.set_points.specs.SetPoints.{has_upper, upper_of}

-- the thermostat layer is at (narrow-close) or under a lower set point
unfoldable pub at_or_under_lower : SetPoints → Float → Bool
at_or_under_lower Neither t = false
at_or_under_lower (Lower l) t = lt t l || narrow_close t l
at_or_under_lower (Upper u) t = false
at_or_under_lower (Both l u) t = lt t l || narrow_close t l

-- 01's reached: above or narrow-close
abbrev pub reached : Float → Float → Bool
reached t u = lt u t || narrow_close t u

unfoldable pub upper_missing_or_reached : SetPoints → Float → Bool
upper_missing_or_reached p t = not (has_upper p) || reached t (upper_of p)

-- no upper set point: off; else at or under a lower set point: on; else unchanged
unfoldable pub switch_on : SetPoints → Float → Bool → Bool
switch_on p t flag = cond (has_upper p) (cond (at_or_under_lower p t) true flag) false

-- off with no upper set point, or with it reached; else unchanged
unfoldable pub switch_off : SetPoints → Float → Bool → Bool
switch_off p t flag = cond (upper_missing_or_reached p t) false flag
