-- States Close, narrow and wide (01, Arithmetic underneath).
use Rattle.std.specs.Prelude.{Bool, true, false, cond, not, ◌&&◌, ◌||◌, ◌≡◌, Float}
use Rattle.std.specs.Float.{nan, inf, fin}
use Rattle.std.specs.Float.Ieee.{lt, le, eq, neg}
use Rattle.numeric.specs.Double.{◌⊖◌, ◌⊛◌, zero_f, relative_tolerance, narrow_tolerance, wide_tolerance}
use Rattle.numeric.specs.Compare.{max_of2}

unfoldable pub magnitude : Float → Float
magnitude x = cond (lt x zero_f) (neg x) x

unfoldable pub infinite : Float → Bool
infinite nan = false
infinite (inf s) = true
infinite (fin s m e) = false

-- the distance is at most e, or at most 1e-9 times the larger magnitude
unfoldable pub within : Float → Float → Float → Bool
within a b e =
    le (magnitude (a ⊖ b)) e || le (magnitude (a ⊖ b)) (relative_tolerance ⊛ max_of2 (magnitude a) (magnitude b))

-- Close(a, b, e): equal; or neither infinite and within e
unfoldable pub close : Float → Float → Float → Bool
close a b e = eq a b || (not (infinite a) && not (infinite b) && within a b e)

-- r says whether two numbers are close, whichever of them is first
pub record ClosePair (lower upper e : Float) (r : Bool) : Type 0 where
  pub lower_first : r ≡ close lower upper e
  pub upper_first : r ≡ close upper lower e

-- 01's narrow-close and wide-close
unfoldable pub narrow_close : Float → Float → Bool
narrow_close a b = close a b narrow_tolerance

unfoldable pub wide_close : Float → Float → Bool
wide_close a b = close a b wide_tolerance
