-- States how heaters, a step's set points and a report's lines stand in the plain arrays that C lends (01, The four calls; Tank).
use Rattle.std.specs.Prelude.{ℕ, ◌+◌, ◌*◌, Bool, false, Option, Some, None, List, ◌++◌, get_or, is_some, unwrap_or, Float}
use Rattle.std.specs.Bool.{then_some}
use Rattle.std.specs.Float.{nan}
use Rattle.numeric.specs.Double.{zero_f}
use Rattle.numeric.specs.Tabulate.{tabulate}
use Rattle.set_points.specs.declared.SetPoints.{SetPoints}
use Rattle.set_points.specs.declared.SetPoints.TheVariants.{Neither, Lower, Upper, Both}
use Rattle.set_points.specs.SetPoints.{has_lower, has_upper, lower_of, upper_of}
use Rattle.working_order.specs.Order.{max_heaters}
use Rattle.tank_model.specs.declared.Heater.{Heater}
use Rattle.tank_model.specs.declared.HeaterLine.{HeaterLine}
use Rattle.tank_model.specs.Fixed.{no_heater}

-- a number for each heater, two of them one after the other, and three: `TWO_EACH` and `THREE_EACH` of the code
abbrev pub two_each : ℕ
two_each = 2 * max_heaters

abbrev pub three_each : ℕ
three_each = 3 * max_heaters

-- three numbers of each: all of the first, then all of the second, then all of the third
abbrev pub three_of : {A : Type 0} → (A → Float) → (A → Float) → (A → Float) → A → List A → List Float
three_of f g e d xs =
    tabulate (λ (h : ℕ). f (get_or xs h d)) max_heaters 0
    ++ (tabulate (λ (h : ℕ). g (get_or xs h d)) max_heaters 0
    ++ tabulate (λ (h : ℕ). e (get_or xs h d)) max_heaters 0)

-- ---- heaters: rated powers, then positions, then thermostat positions; and whether a thermostat has a position of its own

abbrev pub heater_in : List Float → List Bool → ℕ → Heater
heater_in xs bs h = record {
  rated = get_or xs h nan;
  position = get_or xs (max_heaters + h) nan;
  thermostat = then_some (get_or bs h false) (get_or xs (two_each + h) nan);
}

unfoldable pub fitted_in : List Float → List Bool → List Heater
fitted_in xs bs = tabulate (heater_in xs bs) max_heaters 0

-- an absent thermostat's position is zero
unfoldable pub heaters_of : List Heater → List Float
heaters_of xs =
    tabulate (λ (h : ℕ). (get_or xs h no_heater).rated) max_heaters 0
    ++ (tabulate (λ (h : ℕ). (get_or xs h no_heater).position) max_heaters 0
    ++ tabulate (λ (h : ℕ). unwrap_or (get_or xs h no_heater).thermostat zero_f) max_heaters 0)

unfoldable pub thermostats_of : List Heater → List Bool
thermostats_of xs = tabulate (λ (h : ℕ). is_some (get_or xs h no_heater).thermostat) max_heaters 0

-- ---- set points: the lower ones, then the upper ones; and whether they are present

unfoldable pub points_in : Option Float → Option Float → SetPoints
points_in None None = Neither
points_in None (Some u) = Upper u
points_in (Some l) None = Lower l
points_in (Some l) (Some u) = Both l u

abbrev pub setting_in : List Bool → List Float → ℕ → SetPoints
setting_in present points h =
    let lower = then_some (get_or present h false) (get_or points h nan) in
    let upper = then_some (get_or present (max_heaters + h) false) (get_or points (max_heaters + h) nan) in
    points_in lower upper

unfoldable pub settings_in : List Bool → List Float → List SetPoints
settings_in present points = tabulate (setting_in present points) max_heaters 0

-- what C lends for these settings
unfoldable pub present_of : List SetPoints → List Bool
present_of xs =
    tabulate (λ (h : ℕ). has_lower (get_or xs h Neither)) max_heaters 0
    ++ tabulate (λ (h : ℕ). has_upper (get_or xs h Neither)) max_heaters 0

unfoldable pub set_points_of : List SetPoints → List Float
set_points_of xs =
    tabulate (λ (h : ℕ). lower_of (get_or xs h Neither)) max_heaters 0
    ++ tabulate (λ (h : ℕ). upper_of (get_or xs h Neither)) max_heaters 0

-- ---- a report's lines: adjusted inputs, then energies supplied, then losses; their flags; their rounds

abbrev pub line_in : List Float → List Bool → List ℕ → ℕ → HeaterLine
line_in xs flags rounds h = record {
  flag = get_or flags h false;
  adjusted = get_or xs h nan;
  supplied = get_or xs (max_heaters + h) nan;
  losses = get_or xs (two_each + h) nan;
  rounds = get_or rounds h 0;
}

unfoldable pub lines_in : List Float → List Bool → List ℕ → List HeaterLine
lines_in xs flags rounds = tabulate (line_in xs flags rounds) max_heaters 0
