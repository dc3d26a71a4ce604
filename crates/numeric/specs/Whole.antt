-- States how a double is cut to a whole number by comparison, and the layer of a position (01, Tank; Forms Rattle lacks).
-- proofs/Layer.antt shows that below 1 this is the whole part of the rounded product, which is what the Rust's cast gives.
use Rattle.std.specs.Prelude.{cond, ℕ, zero, suc, Float}
use Rattle.std.specs.Float.Ieee.{le}
use Rattle.numeric.specs.Double.{whole, ◌⊛◌}

-- the largest whole number below n that is at most x, and 0 where there is none
unfoldable pub whole_below : ℕ → Float → ℕ
whole_below zero x = 0
whole_below (suc k) x = cond (le (whole k) x) k (whole_below k x)

-- the layer of a position: position × layers cut to a whole number. That of 1, whose product is the number of layers, is the top one (02, R-2; `layer_of_one`)
unfoldable pub layer_of : Float → ℕ → ℕ
layer_of position layers = whole_below layers (position ⊛ whole layers)
