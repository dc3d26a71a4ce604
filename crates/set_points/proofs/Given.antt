-- Proves what it tells of a heater's set points that the upper one is given, or is not.
use Rattle.std.specs.Prelude.{◌≡◌, refl, Bool, true, false, cond, Some, None, Float}
use Rattle.std.proofs.Common.{arith}
use Rattle.std.specs.Option.{is_some, unwrap_or}
use Rattle.std.specs.Float.{nan}
use Rattle.set_points.specs.declared.SetPoints.{SetPoints}
use Rattle.set_points.specs.declared.SetPoints.TheVariants.{Neither, Lower, Upper, Both}
use Rattle.set_points.specs.SetPoints.{has_upper, upper_of, given_upper}

some_given : (b : Bool) (x y : Float) → Some y ≡ cond b (Some x) None → (b ≡ true) × (x ≡ y)
some_given true x y e = grind arith
some_given false x y e = grind arith

none_given : (b : Bool) (x : Float) → None ≡ cond b (Some x) None → b ≡ false
none_given true x e = grind arith
none_given false x e = refl

pub upper_given : (p : SetPoints) (u : Float) → Some u ≡ given_upper p → (has_upper p ≡ true) × (upper_of p ≡ u)
upper_given p u e = some_given (has_upper p) (upper_of p) u e

pub upper_missing : (p : SetPoints) → None ≡ given_upper p → has_upper p ≡ false
upper_missing p e = none_given (has_upper p) (upper_of p) e

some_is : (b : Bool) (x : Float) → is_some (cond b (Some x) None) ≡ b
some_is true x = refl
some_is false x = refl

pub upper_is_some : (p : SetPoints) → is_some (given_upper p) ≡ has_upper p
upper_is_some p = some_is (has_upper p) (upper_of p)

pub upper_or_nan : (p : SetPoints) → unwrap_or (given_upper p) nan ≡ upper_of p
unfolding has_upper upper_of
upper_or_nan Neither = refl
upper_or_nan (Lower l) = refl
upper_or_nan (Upper u) = refl
upper_or_nan (Both l u) = refl

-- what is known of the upper one where a match looked
pub ruleset upper_cases = (upper_given, upper_missing)
