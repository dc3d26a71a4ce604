-- A fourth table, of positions of 1 and above it (02, R-2), and the theorem that each figure holds: the top layer, of heaters and of thermostats, in one layer
-- and in 32; a heater at 1 that works after one just below it; and what 5 still refuses. The Rust gives the same lines where it is given the largest double
-- below 1 for 1 (compare/asymmetric).
use Rattle.std.specs.Prelude.{ℕ, ◌*◌, refl, Bool, true, false, List, [], ◌∷◌, map, Float}
use Rattle.std.specs.Float.{nan}
use Rattle.std.specs.Float.Ieee.{neg}
use Rattle.numeric.specs.Double.{dbl, whole, zero_f, just_below_one}
use Rattle.mixing.specs.Limits.{max_layers}
use Rattle.cylinder.specs.declared.Cylinder.{Cylinder}
use Rattle.set_points.specs.declared.SetPoints.{SetPoints}
use Rattle.set_points.specs.declared.SetPoints.TheVariants.{Both}
use Rattle.working_order.specs.Order.{max_heaters}
use Rattle.tank_model.specs.declared.Heater.{Heater}
use Rattle.tank_model.specs.declared.HeaterLine.{HeaterLine}
use Rattle.tank_model.specs.Members.{All}
use Rattle.storage_tank.specs.declared.StorageTank.{StorageTank}
use Rattle.figures_table.specs.Figure.{Figure, steps, lent, make, layer, Holds, ◌and◌, nearest, heater, heater_with, design, asks, outcome}
use Rattle.figures_table.specs.Figure.{padded, tank_with, tank, no_tank, report, line, answer}
use Rattle.figures_table.specs.Opened.{opened}

-- layers of 16 litres: density, specific heat and step 1, standby 0, ambient 20
abbrev layers_of_16 : ℕ → Cylinder
layers_of_16 n = record { layers = n; volume = whole (16 * n); standby = zero_f; rho = whole 1; cp = whole 1; ambient = whole 20; timestep = whole 1 }

abbrev one : Float
one = whole 1

-- the double after 1: 1 + 2^-52
abbrev just_above_one : Float
just_above_one = dbl 0x3ff0_0000_0000_0001

abbrev both : ℕ → ℕ → SetPoints
both lower upper = Both (whole lower) (whole upper)

abbrev wholes : List ℕ → List Float
wholes ns = map whole ns

-- a heater that is on, and what it supplied; and one that is off
abbrev on : ℕ → HeaterLine
on supplied = line true (whole supplied) (whole supplied) zero_f 1

abbrev idle : HeaterLine
idle = line false zero_f zero_f zero_f 1

-- ---- one layer at 40, with a heater of 160 kW and its thermostat at 1: 160 kWh make 50

abbrev only_layer : List Heater
only_layer = heater_with (whole 160) one one ∷ []

abbrev one_layer : Figure
one_layer =
    steps (design (layers_of_16 1) 40 only_layer) (tank (layers_of_16 1) only_layer (wholes (40 ∷ [])) []) (asks (whole 12) [] (both 50 60 ∷ []) ∷ [])
    (answer 0 (tank (layers_of_16 1) only_layer (wholes (50 ∷ [])) (true ∷ [])) (report zero_f zero_f (whole 40) zero_f (on 160 ∷ [])) ∷ [])

-- ---- two layers at 60, a heater of 160 kW at the bottom and its thermostat at 1. A draw of 16 leaves 12 under 60: the thermostat sees the 60, and the heater
-- stays off. A second leaves 12 in both: it comes on, and 22 and 12 mix to 17

abbrev cold_below : List Heater
cold_below = heater_with (whole 160) zero_f one ∷ []

abbrev thermostat_in_the_lid : Figure
thermostat_in_the_lid =
    steps (design (layers_of_16 2) 60 cold_below) (tank (layers_of_16 2) cold_below (wholes (60 ∷ 60 ∷ [])) [])
    (asks (whole 12) (whole 16 ∷ []) (both 50 70 ∷ []) ∷ asks (whole 12) (whole 16 ∷ []) (both 50 70 ∷ []) ∷ [])
    (answer 0 (tank (layers_of_16 2) cold_below (wholes (12 ∷ 60 ∷ [])) (false ∷ []))
    (report (whole 768) (whole 16) (whole 60) zero_f (idle ∷ []))
    ∷ answer 0 (tank (layers_of_16 2) cold_below (wholes (17 ∷ 17 ∷ [])) (true ∷ []))
    (report (whole 768) (whole 16) (whole 60) zero_f (on 160 ∷ [])) ∷ [])

-- ---- one layer at 40, a heater of 320 kW at 1, given first, and one of 160 kW just below 1. The second works first: it comes on at 40 and leaves 50, and the
-- first makes 70 of that. The other way round it would begin at 60 and stay off

abbrev around_one : List Heater
around_one = heater (whole 320) one ∷ heater (whole 160) just_below_one ∷ []

abbrev lid_works_last : Figure
lid_works_last =
    steps (design (layers_of_16 1) 40 around_one) (tank (layers_of_16 1) around_one (wholes (40 ∷ [])) [])
    (asks (whole 12) [] (both 60 90 ∷ both 41 55 ∷ []) ∷ [])
    (answer 0 (tank (layers_of_16 1) around_one (wholes (70 ∷ [])) (true ∷ true ∷ []))
    (report zero_f zero_f (whole 40) zero_f (on 320 ∷ on 160 ∷ [])) ∷ [])

-- ---- a tank as it is lent, of two layers at 40 and 44, with a heater at 1 that is off and not-a-number in its unused places: 16 kWh make 45 of 44

abbrev lent_heaters : List Heater
lent_heaters = padded max_heaters (heater (whole 16) one ∷ []) (heater_with nan nan nan)

abbrev lent_at : ℕ → Bool → StorageTank
lent_at top flag =
    tank_with (layers_of_16 2) 1 lent_heaters (padded max_layers (wholes (40 ∷ top ∷ [])) nan)
    (padded max_heaters (flag ∷ []) true)

abbrev lent_tank : Figure
lent_tank =
    lent (lent_at 44 false) (asks (whole 12) [] (both 50 60 ∷ []) ∷ [])
    (answer 0 (lent_at 45 true) (report zero_f zero_f (whole 44) zero_f (on 16 ∷ [])) ∷ [])

-- ---- what 5 still refuses

abbrev refused : Heater → Figure
refused h = make (design (layers_of_16 2) 40 (h ∷ [])) (record { outcome = outcome 5; tank = no_tank })

-- ---- the table

abbrev pub top_layer : List Figure
top_layer =
    layer one 1 0
    ∷ layer one 2 1
    ∷ layer one 32 31
    ∷ layer just_below_one 32 31
    ∷ one_layer
    ∷ thermostat_in_the_lid
    ∷ lid_works_last
    ∷ lent_tank
    ∷ refused (heater (whole 160) just_above_one)
    ∷ refused (heater_with (whole 160) zero_f just_above_one)
    ∷ refused (heater (whole 160) (nearest 3 2))
    ∷ refused (heater_with (whole 160) one (nearest 3 2))
    ∷ refused (heater (whole 160) nan)
    ∷ refused (heater_with (whole 160) one (neg one))
    ∷ refused (heater (neg one) one)
    ∷ []

pub table : All Holds top_layer
unfolding opened
table =
    refl
    and refl
    and refl
    and refl
    and (tt, refl, λ r. refl)
    and (tt, refl, λ r. refl)
    and (tt, refl, λ r. refl)
    and (tt, λ r. refl)
    and (tt, refl)
    and (tt, refl)
    and (tt, refl)
    and (tt, refl)
    and (tt, refl)
    and (tt, refl)
    and (tt, refl)
    and tt
