-- Proves that the two switches are a latch (01, Switch-on; Supply and switch-off): set at or under a lower set point, reset with the upper one missing or
-- reached.
use Rattle.std.specs.Prelude.{◌≡◌, refl, Bool, true, false, not, ◌&&◌, ◌||◌, cond, Float}
use Rattle.std.proofs.Common.{sym}
use Rattle.std.proofs.Math.Bool.{and-false}
use Rattle.std.specs.Float.Ieee.{lt}
use Rattle.numeric.specs.Close.{narrow_close}
use Rattle.set_points.specs.declared.SetPoints.{SetPoints}
use Rattle.set_points.specs.declared.SetPoints.TheVariants.{Neither, Lower, Upper, Both}
use Rattle.set_points.specs.SetPoints.{has_upper, upper_of}
use Rattle.heater_switches.specs.Switch.{at_or_under_lower, reached, upper_missing_or_reached, switch_on, switch_off}

-- the flag after one that sets it, if s, and then resets it, if r
abbrev pub latched : Bool → Bool → Bool → Bool
latched s r flag = (s || flag) && not r

-- x is the thermostat layer where a turn begins, y where it ends
pub switches_latch : (p : SetPoints) (x y : Float) (f : Bool)
    → switch_off p y (switch_on p x f) ≡ latched (at_or_under_lower p x) (upper_missing_or_reached p y) f
unfolding switch_off switch_on has_upper upper_of at_or_under_lower upper_missing_or_reached
switches_latch Neither x y f = sym (and-false f)
switches_latch (Lower l) x y f = sym (and-false (lt x l || narrow_close x l || f))
switches_latch (Upper u) x y f = one (reached y u) f
  where
    one : (e f : Bool) → cond e false f ≡ latched false e f
    one true true = refl
    one true false = refl
    one false true = refl
    one false false = refl
switches_latch (Both l u) x y f = two (lt x l || narrow_close x l) (reached y u) f
  where
    two : (b e f : Bool) → cond e false (cond b true f) ≡ latched b e f
    two true true f = refl
    two true false f = refl
    two false true true = refl
    two false true false = refl
    two false false true = refl
    two false false false = refl
