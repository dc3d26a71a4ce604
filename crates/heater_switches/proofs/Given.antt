-- Proves what the tests of a heater come to where a set point is given, and where none is.
use Rattle.std.specs.Prelude.{◌≡◌, refl, false, ◌||◌, Some, None, Float}
use Rattle.std.proofs.Common.{arith}
use Rattle.std.specs.Float.Ieee.{lt}
use Rattle.numeric.specs.Close.{narrow_close}
use Rattle.set_points.specs.declared.SetPoints.{SetPoints}
use Rattle.set_points.specs.declared.SetPoints.TheVariants.{Neither, Lower, Upper, Both}
use Rattle.set_points.specs.SetPoints.{has_lower, lower_of, given_lower}
use Rattle.heater_switches.specs.Switch.{at_or_under_lower}

pub under_given : (p : SetPoints) (t l : Float) → Some l ≡ given_lower p → (lt t l || narrow_close t l) ≡ at_or_under_lower p t
unfolding at_or_under_lower has_lower lower_of
under_given Neither t l e = grind arith
under_given (Lower x) t l e = grind arith
under_given (Upper x) t l e = grind arith
under_given (Both x y) t l e = grind arith

pub under_missing : (p : SetPoints) (t : Float) → None ≡ given_lower p → false ≡ at_or_under_lower p t
unfolding at_or_under_lower has_lower
under_missing Neither t e = refl
under_missing (Lower x) t e = grind arith
under_missing (Upper x) t e = refl
under_missing (Both x y) t e = grind arith

pub ruleset under_cases = (under_given, under_missing)
