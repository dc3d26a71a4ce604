-- States cases of positions by computation (02, R-2): the smallest ones at which a wrong check of 5, a wrong sentence, a wrong layer or a wrong order of work
-- answers otherwise. A check that is only written otherwise still passes here.
use Rattle.std.specs.Prelude.{◌≡◌, refl, List, [], ◌∷◌, map, Float}
use Rattle.std.proofs.Common.{inl, inr}
use Rattle.std.specs.Float.Ieee as I
use Rattle.std.specs.Float.{nan}
use Rattle.std.specs.Float.Ieee.{neg}
use Rattle.numeric.specs.Double.{dbl, whole, zero_f, one_f, just_below_one}
use Rattle.numeric.specs.Tabulate as Tabulate
use Rattle.numeric.specs.Whole as Whole
use Rattle.working_order.specs.Order as Sorting
use Rattle.tank_model.specs.Fixed.{Placed, Fixed, immersed}
use Rattle.tank_model.specs.Order as Order
use Rattle.tank_model.specs.Order.{working_order}
use Rattle.tank_model.specs.Checks.{heater_check}
use Rattle.tank_model.specs.Refusals.{NoPosition}

-- opens what a check, a layer and the order compute with
unfoldable opened : Unit {0}
unfolding I.round I.of_int I.of_bits I.add I.mul I.neg I.lt I.le I.eq Tabulate.tabulate Whole.whole_below Whole.layer_of Sorting.insert Sorting.insertion_sort
    Sorting.rising_order Order.working_order
opened = tt

-- the double after 1: 1 + 2^-52
abbrev just_above_one : Float
just_above_one = dbl 0x3ff0_0000_0000_0001

-- a heater of 1 kW at a position, its thermostat at another
abbrev heater : Float → Float → Placed
heater position thermostat = record { rated = whole 1; position = position; thermostat = thermostat }

-- ---- 5

pub heater_in_the_lid : heater_check (heater one_f zero_f) ≡ 0
unfolding opened
heater_in_the_lid = refl

pub thermostat_in_the_lid : heater_check (heater zero_f one_f) ≡ 0
unfolding opened
thermostat_in_the_lid = refl

pub heater_above : heater_check (heater just_above_one zero_f) ≡ 5
unfolding opened
heater_above = refl

pub thermostat_above : heater_check (heater zero_f just_above_one) ≡ 5
unfolding opened
thermostat_above = refl

pub heater_below_zero : heater_check (heater (neg one_f) one_f) ≡ 5
unfolding opened
heater_below_zero = refl

pub thermostat_unknown : heater_check (heater one_f nan) ≡ 5
unfolding opened
thermostat_unknown = refl

pub minus_zero : heater_check (heater (neg zero_f) (neg zero_f)) ≡ 0
unfolding opened
minus_zero = refl

-- the same of 5's sentence
pub one_is_a_position : ¬ (NoPosition one_f)
unfolding opened
one_is_a_position (inl f) = f tt
one_is_a_position (inr t) = t

pub above_is_none : NoPosition just_above_one
unfolding opened
above_is_none = inr tt

pub unknown_is_none : NoPosition nan
unfolding opened
unknown_is_none = inl (λ t. t)

-- ---- the top layer: 3 of four, and the only one

pub top_of_four : immersed 4 (heater one_f one_f) ≡ record { rated = whole 1; layer = 3; thermostat = 3 }
unfolding opened
top_of_four = refl

pub top_of_one : immersed 1 (heater one_f one_f) ≡ record { rated = whole 1; layer = 0; thermostat = 0 }
unfolding opened
top_of_one = refl

-- ---- the order of work: a heater at 1, given first, works after one just below it; two at 1 work as given

abbrev tank : List Float → Fixed
tank positions = record {
  cylinder = record { layers = 4; volume = whole 64; standby = zero_f; rho = whole 1; cp = whole 1; ambient = zero_f; timestep = whole 1 };
  vol = [];
  heaters = map (λ p. heater p p) positions;
}

pub lid_after_just_below : working_order (tank (one_f ∷ just_below_one ∷ [])) ≡ (1 ∷ 0 ∷ [])
unfolding opened
lid_after_just_below = refl

pub two_in_the_lid : working_order (tank (one_f ∷ one_f ∷ [])) ≡ (0 ∷ 1 ∷ [])
unfolding opened
two_in_the_lid = refl
