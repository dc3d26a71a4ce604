-- States what became of position 1 (02, R-2): 01's positions, which end below 1, kept here; and a tank with the largest double below 1 in the place of
-- positions of 1. The Rust has no layer for 1, and is given that double; where it would change the order of work, it is given its heaters in that order, which
-- is run and not stated here. Nothing that runs cites this file: proofs/TopLayer.antt proves that 5 lets 1 pass and nothing else that it did not, and that the
-- two tanks are stepped alike.
use Rattle.std.specs.Prelude.{◌≡◌, ◌⊎◌, List, Bool, ◌&&◌, ℕ, length, get_or, Float}
use Rattle.std.specs.Float.Ieee.{lt, le}
use Rattle.numeric.specs.Double.{zero_f, one_f, just_below_one}
use Rattle.tank_model.specs.Fixed.{Placed, not_placed, Fixed, heater_of}
use Rattle.tank_model.specs.Order.{working_order}

-- at least 0 and below 1 (01, The four calls: 5)
abbrev pub below_one : Float → Bool
below_one x = le zero_f x && lt x one_f

-- y is x, or the largest double below 1 where x is 1
abbrev pub Lowered : Float → Float → Type 0
Lowered x y = (y ≡ x) ⊎ ((x ≡ one_f) × (y ≡ just_below_one))

-- the tank f with other heaters
abbrev pub with_heaters : Fixed → List Placed → Fixed
with_heaters f hs = record { cylinder = f.cylinder; vol = f.vol; heaters = hs }

-- hs are the heaters of f, but for positions of 1, of which each may be lowered, and are worked in the same order
pub record LoweredHeaters (f : Fixed) (hs : List Placed) : Type 0 where
  pub many : length hs ≡ length f.heaters
  pub rated : (h : ℕ) → (get_or hs h not_placed).rated ≡ (heater_of f h).rated
  pub position : (h : ℕ) → Lowered (heater_of f h).position (get_or hs h not_placed).position
  pub thermostat : (h : ℕ) → Lowered (heater_of f h).thermostat (get_or hs h not_placed).thermostat
  pub order : working_order (with_heaters f hs) ≡ working_order f
