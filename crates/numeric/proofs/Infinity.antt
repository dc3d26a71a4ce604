-- Proves that std's tests of a double are the definitions' (01, refusals 3 to 10, and Close).
use Rattle.std.specs.Prelude.{◌≡◌, refl, Float}
use Rattle.std.specs.Float.{nan, inf, fin, float_is_finite, float_is_infinite}
use Rattle.std.specs.Float.Ieee.Scale.{finite}
use Rattle.numeric.specs.Close.{infinite}

pub is_finite_tells : (x : Float) → float_is_finite x ≡ finite x
unfolding float_is_finite
is_finite_tells nan = refl
is_finite_tells (inf s) = refl
is_finite_tells (fin s m e) = refl

pub is_infinite_tells : (x : Float) → float_is_infinite x ≡ infinite x
unfolding infinite float_is_infinite
is_infinite_tells nan = refl
is_infinite_tells (inf s) = refl
is_infinite_tells (fin s m e) = refl
