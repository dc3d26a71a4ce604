-- Proves that C's layout loses nothing of a step's set points, and that heaters that stand in it are worked in the tank's order (01, The four calls; Tank).
use Rattle.std.proofs.Common.{◌≡◌, refl, ap, ◌∙◌, ℕ, ◌+◌, arith, List, get_or, length}
use Rattle.std.specs.Prelude.{◌<◌, ◌≤◌, Bool, Float}
use Rattle.std.specs.Bool.{then_some}
use Rattle.std.specs.Float.{nan}
use Rattle.cylinder.specs.declared.Cylinder.{Cylinder}
use Rattle.numeric.specs.Tabulate.{tabulate, tabulate_same, at_tabulate}
use Rattle.set_points.specs.declared.SetPoints.{SetPoints}
use Rattle.set_points.specs.declared.SetPoints.TheVariants.{Neither, Lower, Upper, Both}
use Rattle.set_points.specs.SetPoints.{has_lower, has_upper, lower_of, upper_of}
use Rattle.working_order.specs.Order.{max_heaters, rising_order}
use Rattle.working_order.proofs.Same.{rising_same}
use Rattle.tank_model.specs.declared.Heater.{Heater}
use Rattle.tank_model.specs.Fixed.{Placed, no_heater, placed, placed_heaters, heater_of, fixed_by}
use Rattle.tank_model.specs.Order.{working_order}
use Rattle.tank_model.proofs.Order.{many_placed, placed_at}
use Rattle.lent_tank.specs.Layout.{heater_in, fitted_in, points_in, settings_in, present_of, set_points_of}
use Rattle.lent_tank.proofs.Places.{places}

-- ---- set points that are laid out and read again are what they were

points_back : (p : SetPoints) → points_in (then_some (has_lower p) (lower_of p)) (then_some (has_upper p) (upper_of p)) ≡ p
unfolding points_in has_lower has_upper lower_of upper_of
points_back Neither = refl
points_back (Lower l) = refl
points_back (Upper u) = refl
points_back (Both l u) = refl

abbrev setting_back : List SetPoints → ℕ → SetPoints
setting_back xs h = let p = get_or xs h Neither in points_in (then_some (has_lower p) (lower_of p)) (then_some (has_upper p) (upper_of p))

settings_read : (xs : List SetPoints) → settings_in (present_of xs) (set_points_of xs) ≡ tabulate (setting_back xs) max_heaters 0
unfolding settings_in present_of set_points_of tabulate
settings_read xs = refl

pub settings_back : (xs : List SetPoints) → length xs ≡ max_heaters → settings_in (present_of xs) (set_points_of xs) ≡ xs
settings_back xs e =
    settings_read xs
    ∙ tabulate_same (setting_back xs) (λ (h : ℕ). get_or xs h Neither) max_heaters 0 (λ j l u. points_back (get_or xs j Neither))
    ∙ places Neither max_heaters xs e

-- ---- the order of work, by the positions that stand after the rated powers

module _ (c : Cylinder) (n : ℕ) (few : n ≤ max_heaters) (heaters : List Float) (thermostats : List Bool) where
  abbrev position : ℕ → Float
  position h = get_or heaters (max_heaters + h) nan

  pub order_lent : working_order (fixed_by c (placed_heaters n (fitted_in heaters thermostats))) ≡ rising_order position n
  unfolding working_order fitted_in
  order_lent = rw (many_placed n (fitted_in heaters thermostats)) (rising_same (λ (h : ℕ). (heater_of (fixed_by c (placed_heaters n (fitted_in heaters thermostats))) h).position) position n same)
    where
      read : (h : ℕ) → h < max_heaters → get_or (fitted_in heaters thermostats) h no_heater ≡ heater_in heaters thermostats h
      read h l = at_tabulate (heater_in heaters thermostats) max_heaters h no_heater l

      same : (h : ℕ) → h < n → (heater_of (fixed_by c (placed_heaters n (fitted_in heaters thermostats))) h).position ≡ position h
      same h l = ap (λ (x : Placed). x.position) (placed_at n (fitted_in heaters thermostats) h l) ∙ ap (λ (x : Heater). (placed x).position) (read h (omega arith))
