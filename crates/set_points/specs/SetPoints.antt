-- States each one of a heater's set points (01, Tank: neither, lower only, upper only or both).
use Rattle.std.specs.Prelude.{Bool, true, false, cond, Option, Some, None, Float}
use Rattle.std.specs.Float.{nan}
use Rattle.set_points.specs.declared.SetPoints.{SetPoints}
use Rattle.set_points.specs.declared.SetPoints.TheVariants.{Neither, Lower, Upper, Both}

unfoldable pub has_lower : SetPoints → Bool
has_lower Neither = false
has_lower (Lower l) = true
has_lower (Upper u) = false
has_lower (Both l u) = true

unfoldable pub has_upper : SetPoints → Bool
has_upper Neither = false
has_upper (Lower l) = false
has_upper (Upper u) = true
has_upper (Both l u) = true

-- the lower set point, not-a-number where there is none
unfoldable pub lower_of : SetPoints → Float
lower_of Neither = nan
lower_of (Lower l) = l
lower_of (Upper u) = nan
lower_of (Both l u) = l

-- the upper set point, not-a-number where there is none
unfoldable pub upper_of : SetPoints → Float
upper_of Neither = nan
upper_of (Lower l) = nan
upper_of (Upper u) = u
upper_of (Both l u) = u

-- each of them, where there is one
abbrev pub given_lower : SetPoints → Option Float
given_lower p = cond (has_lower p) (Some (lower_of p)) None

abbrev pub given_upper : SetPoints → Option Float
given_upper p = cond (has_upper p) (Some (upper_of p)) None
