-- A second table, of figures that no symmetry hides (01, Draw to Step; refusals 6 to 10), and the theorem that each holds: density 4 and specific heat 0.5,
-- so that neither can be left out and their product is not 1; layers, heaters and steps that differ. Each row's arithmetic stands above it, and the Rust
-- gives the same lines (compare/asymmetric) but for the last row, whose tank no job can lend.
use Rattle.std.specs.Prelude.{ℕ, ◌^◌, refl, Bool, true, false, List, [], ◌∷◌, ◌++◌, map, replicate, Float}
use Rattle.std.specs.Float.{nan}
use Rattle.std.specs.Float.Ieee.{neg}
use Rattle.numeric.specs.Double.{whole, zero_f}
use Rattle.cylinder.specs.declared.Cylinder.{Cylinder}
use Rattle.set_points.specs.declared.SetPoints.{SetPoints}
use Rattle.set_points.specs.declared.SetPoints.TheVariants.{Neither, Lower, Upper, Both}
use Rattle.tank_model.specs.declared.Heater.{Heater}
use Rattle.tank_model.specs.declared.Step.{Step}
use Rattle.tank_model.specs.Members.{All}
use Rattle.storage_tank.specs.declared.StorageTank.{StorageTank}
use Rattle.storage_tank.specs.declared.Report.{Report}
use Rattle.storage_tank.specs.declared.Stepped.{Stepped}
use Rattle.figures_table.specs.Figure.{Figure, steps, lent, Holds, ◌and◌, nearest, minus, heater, heater_with, design, settings, asks}
use Rattle.figures_table.specs.Figure.{padded, tank_with, tank, report, line, answer}
use Rattle.figures_table.specs.Opened.{opened}

abbrev half : Float
half = nearest 1 2

abbrev quarter : Float
quarter = nearest 1 4

abbrev three_quarters : Float
three_quarters = nearest 3 4

-- the layers, the litres, the standby loss, ambient and the step length
abbrev dense : ℕ → ℕ → ℕ → ℕ → Float → Cylinder
dense layers volume standby ambient timestep = record {
  layers = layers;
  volume = whole volume;
  standby = whole standby;
  rho = whole 4;
  cp = half;
  ambient = whole ambient;
  timestep = timestep;
}

abbrev wholes : List ℕ → List Float
wholes ns = map whole ns

abbrev both : ℕ → ℕ → SetPoints
both lower upper = Both (whole lower) (whole upper)

-- ---- draws: four layers of 8 litres, no heaters

abbrev eights : Cylinder
eights = dense 4 32 0 20 (whole 1)

-- the layers, energy, volume used and average after a step
abbrev drew : List ℕ → Float → ℕ → Float → Stepped
drew layers energy used average = answer 0 (tank eights [] (wholes layers) []) (report energy (whole used) average zero_f [])

-- Two draws in a step, at 50, feed 10. 12: 8 + 4 from the top, 2 × 12 × 40 = 960, leaves 10, (4×50 + 4×10) / 8 = 30, 50, 50. 20: 8 + 8 + 4,
-- 2 × (16×40 + 4×20) = 1440, leaves (4×30 + 4×10) / 8 = 20 on top of 10. Average (12×50 + 16×50 + 4×30) / 32 = 47.5.
-- Then 40, more than the tank holds: 2 × 8 × 10 = 160, (8×20 + 24×10 + 8×10) / 40 = 12; used 32.
abbrev draws : Figure
draws =
    steps (design eights 50 []) (tank eights [] (replicate 4 (whole 50)) [])
    (asks (whole 10) (wholes (12 ∷ 20 ∷ [])) [] ∷ asks (whole 10) (wholes (40 ∷ [])) [] ∷ [])
    (drew (10 ∷ 10 ∷ 10 ∷ 20 ∷ []) (whole 2400) 32 (nearest 475 10) ∷ drew (10 ∷ 10 ∷ 10 ∷ 10 ∷ []) (whole 160) 32 (whole 12) ∷ [])

-- A feed of 60 under 20, draw 12: 2 × 12 × -40 = -960, leaves 60, (4×20 + 4×60) / 8 = 40, 20, 20, which mix to 50, (50 + 50 + 20) / 3 = 40 and
-- (3×40 + 20) / 4 = 35.
abbrev hot_feed : Figure
hot_feed =
    steps (design eights 20 []) (tank eights [] (replicate 4 (whole 20)) []) (asks (whole 60) (wholes (12 ∷ [])) [] ∷ [])
    (drew (35 ∷ 35 ∷ 35 ∷ 35 ∷ []) (minus 960) 12 (whole 20) ∷ [])

-- ---- heaters

-- Four layers of 50 litres: 2 × 50 = 100 kWh a degree. h = 25, a layer's loss 25×4×0.5 × 0.25 × 0.5 = 6.25 for each degree above the room's 30.
abbrev fifties : Cylinder
fifties = dense 4 200 27 30 half

-- given out of order; the first has no thermostat of its own
abbrev unordered : List Heater
unordered =
    heater (whole 800) three_quarters ∷ heater_with (whole 4800) zero_f half ∷ heater_with (whole 2400) quarter three_quarters ∷ []

-- Second heater first, 2400 kWh: 40 + 24 = 64 mixes to 52, (52 + 52 + 40) / 3 = 48, (3×48 + 40) / 4 = 46; each layer loses 6.25 × 16 = 100, one degree: 45.
-- Third, 1200 kWh to layer 1: 57 mixes upward to 51, (51 + 51 + 45) / 3 = 49; limited to 47, counted 6.25×17 - 100 = 6.25 each, 18.75 in all and not taken;
-- surplus 3 × (4900 - 6.25 - 4700) = 581.25, adjusted 1200 - 581.25 = 618.75; layer 0 loses max(0, 6.25×15 - 100) = 0.
-- First, 400 kWh to layer 3: 51, loses 6.25×21 - 106.25 = 25: 50.75; layers 1 and 2 lose 106.25 - 106.25 = 0. Recoverable 443.75 × 0.75.
abbrev three_heaters : Figure
three_heaters =
    steps (design fifties 40 unordered) (tank fifties unordered (replicate 4 (whole 40)) [])
    (asks (whole 10) [] (both 48 60 ∷ both 40 60 ∷ both 45 47 ∷ []) ∷ [])
    (answer 0 (tank fifties unordered (whole 45 ∷ whole 47 ∷ whole 47 ∷ nearest 5_075 100 ∷ []) (true ∷ true ∷ false ∷ []))
    (report zero_f zero_f (whole 40) (nearest 3_328_125 10_000)
    (line true (whole 400) (whole 400) (whole 25) 1
    ∷ line true (whole 2400) (whole 2400) (whole 400) 1
    ∷ line false (nearest 61_875 100) (nearest 61_875 100) (nearest 1_875 100) 1
    ∷ [])) ∷ [])

-- four layers of 8 litres, 16 kWh a degree, and a step of half an hour
abbrev eights_half : Cylinder
eights_half = dense 4 32 0 20 half

abbrev elsewhere : List Heater
elsewhere =
    heater_with (whole 128) half zero_f ∷ heater_with (whole 64) zero_f quarter ∷ heater_with (whole 32) three_quarters quarter ∷ []

-- Draw 12 first: 10, 30, 50, 50. Second heater: its thermostat's layer is at 30, not its own at 10: off. First, by the layer at 10: on; 50 + 64 / 16 = 54 mixes
-- to 52, limited to 51, adjusted 64 - 2×16 = 32; still on, for the layer at 10 is not 51. Third, by the layer at 30: on; 51 + 16 / 16 = 52.
abbrev thermostats : Figure
thermostats =
    steps (design eights_half 50 elsewhere) (tank eights_half elsewhere (replicate 4 (whole 50)) [])
    (asks (whole 10) (wholes (12 ∷ [])) (both 20 51 ∷ both 20 60 ∷ both 30 70 ∷ []) ∷ [])
    (answer 0 (tank eights_half elsewhere (wholes (10 ∷ 30 ∷ 51 ∷ 52 ∷ [])) (true ∷ false ∷ true ∷ []))
    (report (whole 960) (whole 12) (whole 50) zero_f
    (line true (whole 32) (whole 32) zero_f 1 ∷ line false zero_f zero_f zero_f 1 ∷ line true (whole 16) (whole 16) zero_f 1 ∷ [])) ∷ [])

-- two layers of 16 litres, 32 kWh a degree, by their standby loss
abbrev two : ℕ → Cylinder
two standby = dense 2 32 standby 20 half

abbrev upper_thermostat : List Heater
upper_thermostat = heater_with (whole 128) zero_f half ∷ []

-- both layers, the average, the flag and what was supplied
abbrev warmed : ℕ → ℕ → Bool → ℕ → Stepped
warmed layers average flag supplied =
    answer 0 (tank (two 0) upper_thermostat (wholes (layers ∷ layers ∷ [])) (flag ∷ []))
    (report zero_f zero_f (whole average) zero_f (line flag (whole supplied) (whole supplied) zero_f 1 ∷ []))

-- 64 kWh are a degree in both layers. On at 40; the upper set point alone keeps it on; without one it goes off, and stays off with the upper one alone, and
-- above the lower one; on again at 42, and off at 43.
abbrev set_points : Figure
set_points =
    steps (design (two 0) 40 upper_thermostat) (tank (two 0) upper_thermostat (wholes (40 ∷ 40 ∷ [])) [])
    (map (λ p. asks (whole 10) [] (p ∷ [])) (both 40 60 ∷ Upper (whole 60) ∷ Neither ∷ Upper (whole 60) ∷ both 41 60 ∷ both 42 43 ∷ []))
    (warmed 41 40 true 64 ∷ warmed 42 41 true 64 ∷ warmed 42 42 false 0 ∷ warmed 42 42 false 0 ∷ warmed 42 42 false 0 ∷ warmed 43 42 false 64 ∷ [])

-- 2^-35 kW for half an hour on 32 kWh a degree: 40 + 2^-41. Adjusted 2^-36, being wide-close to 0, is reported and not supplied; the layer is not warmed.
abbrev small : Cylinder
small = dense 1 16 0 20 half

abbrev small_heater : List Heater
small_heater = heater (nearest 1 (2 ^ 35)) zero_f ∷ []

abbrev small_input : Figure
small_input =
    steps (design small 40 small_heater) (tank small small_heater (whole 40 ∷ []) []) (asks (whole 10) [] (both 50 60 ∷ []) ∷ [])
    (answer 0 (tank small small_heater (nearest 87_960_930_222_081 (2 ^ 41) ∷ []) (true ∷ []))
    (report zero_f zero_f (whole 40) zero_f (line true (nearest 1 (2 ^ 36)) zero_f zero_f 1 ∷ [])) ∷ [])

-- A room at 20 around a tank at 10: each layer's loss is below zero, and so 0
abbrev idle_heater : List Heater
idle_heater = heater (whole 64) zero_f ∷ []

abbrev warm_room : Figure
warm_room =
    steps (design (two 27) 10 idle_heater) (tank (two 27) idle_heater (wholes (10 ∷ 10 ∷ [])) [])
    (asks (whole 10) [] (Neither ∷ []) ∷ [])
    (answer 0 (tank (two 27) idle_heater (wholes (10 ∷ 10 ∷ [])) [])
    (report zero_f zero_f (whole 10) zero_f (line false zero_f zero_f zero_f 1 ∷ [])) ∷ [])

-- ---- refused steps

abbrev own_thermostat : List Heater
own_thermostat = heater (whole 640) zero_f ∷ []

abbrev tank_after : List ℕ → StorageTank
tank_after layers = tank (two 0) own_thermostat (wholes layers) (true ∷ [])

abbrev report_after : ℕ → ℕ → Report
report_after energy used = report (whole energy) (whole used) (whole 60) zero_f (line true (whole 320) (whole 320) zero_f 1 ∷ [])

-- a refused step leaves the tank and the report of the first
abbrev left : ℕ → Stepped
left n = answer n (tank_after (30 ∷ 60 ∷ [])) (report_after 1280 16)

abbrev upper : List SetPoints
upper = Upper (whole 70) ∷ []

-- 65 events: one more than there are places
abbrev many : Step
many = record { feed = whole 20; events = 65; volumes = replicate 64 (whole 1); entries = 1; settings = settings upper }

-- 16 litres: 20, 60, energy 2 × 16 × 40 = 1280, and 320 kWh make 30 of 20. Then 6: 65 events; 7: a volume of -1; 8: a lower set point alone;
-- 9: two layers at 1e307 mix, 16 × 1e307 twice is not finite, and no order is found; 10: 2 × 16 × 1e307 is not finite.
-- Then 8 litres: (8×30 + 8×20) / 16 = 25 and (8×60 + 8×30) / 16 = 45, energy 2 × 8 × 40 = 640, and 320 kWh make 35 of 25.
abbrev refused : Figure
refused =
    steps (design (two 0) 60 own_thermostat) (tank (two 0) own_thermostat (wholes (60 ∷ 60 ∷ [])) [])
    (asks (whole 20) (wholes (16 ∷ [])) (both 50 70 ∷ [])
    ∷ many
    ∷ asks (whole 20) (whole 16 ∷ minus 1 ∷ []) upper
    ∷ asks (whole 20) (wholes (16 ∷ [])) (Lower (whole 50) ∷ [])
    ∷ asks (nearest (10 ^ 307) 1) (wholes (32 ∷ [])) upper
    ∷ asks (neg (nearest (10 ^ 307) 1)) (wholes (16 ∷ [])) upper
    ∷ asks (whole 20) (wholes (8 ∷ [])) upper
    ∷ [])
    (answer 0 (tank_after (30 ∷ 60 ∷ [])) (report_after 1280 16)
    ∷ left 6
    ∷ left 7
    ∷ left 8
    ∷ left 9
    ∷ left 10
    ∷ answer 0 (tank_after (35 ∷ 45 ∷ [])) (report_after 640 8)
    ∷ [])

-- ---- unused places

-- a heater that no call may look at
abbrev junk : Heater
junk = heater_with nan (whole 7) nan

-- The last step of the figure above, on a tank lent with something in every unused place: the step keeps it, and the report's unused places are zero.
abbrev kept : Figure
kept =
    lent
    (tank_with (two 0) 1 (own_thermostat ++ replicate 7 junk) (wholes (30 ∷ 60 ∷ []) ++ replicate 30 nan) (replicate 8 true))
    (asks (whole 20) (wholes (8 ∷ [])) upper ∷ [])
    (answer 0
    (tank_with (two 0) 1 (padded 8 own_thermostat junk) (padded 32 (wholes (35 ∷ 45 ∷ [])) nan) (replicate 8 true))
    (report_after 640 8) ∷ [])

-- ---- the table

abbrev pub asymmetric : List Figure
asymmetric = draws ∷ hot_feed ∷ three_heaters ∷ thermostats ∷ set_points ∷ small_input ∷ warm_room ∷ refused ∷ kept ∷ []

pub table : All Holds asymmetric
unfolding opened
table =
    (tt, refl, λ r. refl)
    and (tt, refl, λ r. refl)
    and (tt, refl, λ r. refl)
    and (tt, refl, λ r. refl)
    and (tt, refl, λ r. refl)
    and (tt, refl, λ r. refl)
    and (tt, refl, λ r. refl)
    and (tt, refl, λ r. refl)
    and (tt, λ r. refl)
    and tt
