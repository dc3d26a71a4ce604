-- States the order in which a step works its heaters (01, Tank): by `comes_before`, which looks at where they sit.
use Rattle.std.specs.Prelude.{ℕ, ◌≡◌, ◌-◌, ◌++◌, List, length, replicate}
use Rattle.working_order.specs.Order.{max_heaters, rising_order}
use Rattle.tank_model.specs.declared.Heater.{Heater}
use Rattle.tank_model.specs.Fixed.{Fixed, placed_heaters, heater_of}

unfoldable pub working_order : Fixed → List ℕ
working_order f = rising_order (λ (h : ℕ). (heater_of f h).position) (length f.heaters)

-- the array `order` holds that order, for any tank of the first n of these heaters, and zeros past it
abbrev pub InOrder : ℕ → List Heater → List ℕ → Type 0
InOrder n fitted order = (f : Fixed) → f.heaters ≡ placed_heaters n fitted → order ≡ working_order f ++ replicate (max_heaters - n) 0
