-- The smallest set points at which a near wrong check answers another number (02, R-1), by computation. A check that is only written otherwise passes here;
-- one that is wrong does not, whatever its proof looks like.
use Rattle.std.specs.Prelude.{ℕ, ◌≡◌, refl, false, List, [], ◌∷◌, map, length, Float}
use Rattle.std.specs.Float.Ieee as I
use Rattle.std.specs.Float.{nan, inf}
use Rattle.numeric.specs.Double.{whole, zero_f}
use Rattle.numeric.specs.Tabulate as Tabulate
use Rattle.working_order.specs.Order as Sorting
use Rattle.set_points.specs.declared.SetPoints.{SetPoints}
use Rattle.set_points.specs.declared.SetPoints.TheVariants.{Lower, Both}
use Rattle.tank_model.specs.declared.Step.{Step}
use Rattle.tank_model.specs.Fixed.{Fixed}
use Rattle.tank_model.specs.FirstRefusal as FirstRefusal
use Rattle.tank_model.specs.FirstRefusal.{first_refusal}
use Rattle.tank_model.specs.Checks as Checks
use Rattle.tank_model.specs.Checks.{points_check, step_checks}

-- opens what a check computes with
unfoldable opened : Unit {0}
unfolding I.round I.of_int I.of_bits I.lt I.le Tabulate.tabulate FirstRefusal.first_refusal Checks.points_check
    Sorting.insert Sorting.insertion_sort Sorting.rising_order
opened = tt

abbrev both : ℕ → ℕ → SetPoints
both lower upper = Both (whole lower) (whole upper)

-- a tank with heaters at these positions, and a step of n entries
abbrev tank : List ℕ → Fixed
tank positions = record {
  cylinder = record { layers = 2; volume = whole 32; standby = zero_f; rho = whole 1; cp = whole 1; ambient = zero_f; timestep = whole 1 };
  vol = [];
  heaters = map (λ p. record { rated = whole 1; position = whole p; thermostat = whole p }) positions;
}

abbrev asks : Float → ℕ → List SetPoints → Step
asks feed n points = record { feed = feed; events = 0; volumes = []; entries = n; settings = points }

-- what a step is refused for by the checks of its arguments
abbrev refusal : List ℕ → Float → List SetPoints → ℕ
refusal positions feed points = first_refusal (step_checks (tank positions) (asks feed (length positions) points))

-- ---- one heater

pub nan_alone : points_check (Lower nan) ≡ 12
unfolding opened
nan_alone = refl

pub infinite_above : points_check (Both (inf false) (whole 60)) ≡ 12
unfolding opened
infinite_above = refl

pub lower_alone : points_check (Lower (whole 50)) ≡ 8
unfolding opened
lower_alone = refl

pub equal_accepted : points_check (both 60 60) ≡ 0
unfolding opened
equal_accepted = refl

-- ---- a step

-- the first heater as given decides: the second has a 12, and works first
pub first_as_given : refusal (1 ∷ 0 ∷ []) (whole 12) (both 60 50 ∷ Lower nan ∷ []) ≡ 13
unfolding opened
first_as_given = refl

-- an entry past the heaters is not looked at
pub past_the_heaters : refusal (0 ∷ []) (whole 12) (both 60 60 ∷ Lower nan ∷ []) ≡ 0
unfolding opened
past_the_heaters = refl

-- 7 comes before set points
pub feed_first : refusal (0 ∷ []) nan (Lower (whole 50) ∷ []) ≡ 7
unfolding opened
feed_first = refl
