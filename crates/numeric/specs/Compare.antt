-- States `min_of_2` and `max_of_2` of compare_floats.rs, and what a test of equal doubles says (01, Arithmetic underneath).
use Rattle.std.specs.Prelude.{Bool, true, cond, ◌≡◌, Float}
use Rattle.std.specs.Float.Ieee.{lt, eq}
use Rattle.numeric.specs.Double.{zero_f}

-- its first if first < second, else its second: so the second where either is not a number
unfoldable pub min_of2 : Float → Float → Float
min_of2 first second = cond (lt first second) first second

-- its first if first > second, else its second
unfoldable pub max_of2 : Float → Float → Float
max_of2 first second = cond (lt second first) first second

-- r says whether x and y are equal; what equals a double above zero is that double
pub record SaysSame (x y : Float) (r : Bool) : Type 0 where
  pub compares : r ≡ eq x y
  pub same : r ≡ true → lt zero_f y ≡ true → x ≡ y
