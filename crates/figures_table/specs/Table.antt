-- The starred figures of 01 (Figures to hold it against) as one table, that of position 1 as 02 (R-2) has it, and the theorem that each of them holds of the
-- definitions, by computation. Beside it the figure without a star, and 01's traps.
use Rattle.std.specs.Prelude.{ℕ, ◌*◌, ◌≡◌, refl, Bool, true, false, List, [], ◌∷◌, map, replicate, Float}
use Rattle.std.specs.Float.{binary64, nan}
use Rattle.std.specs.Float.Ieee.{round, of_bits}
use Rattle.numeric.specs.Double.{dbl, whole, zero_f}
use Rattle.cylinder.specs.declared.Cylinder.{Cylinder}
use Rattle.set_points.specs.declared.SetPoints.TheVariants.{Neither, Both}
use Rattle.tank_model.specs.declared.Heater.{Heater}
use Rattle.tank_model.specs.declared.Step.{Step}
use Rattle.tank_model.specs.declared.HeaterLine.{HeaterLine}
use Rattle.tank_model.specs.Members.{All}
use Rattle.storage_tank.specs.declared.Stepped.{Stepped}
use Rattle.figures_table.specs.Figure.{Figure, ◌and◌, steps, layer, mix, Holds, nearest, minus, heater, design, asks}
use Rattle.figures_table.specs.Figure.{tank, report, line, answer}
use Rattle.figures_table.specs.Opened.{opened}

-- density and specific heat 1, ambient 20: the layers, the litres, the standby loss and the step length
abbrev cylinder : ℕ → ℕ → ℕ → Float → Cylinder
cylinder layers volume standby timestep = record {
  layers = layers;
  volume = whole volume;
  standby = whole standby;
  rho = whole 1;
  cp = whole 1;
  ambient = whole 20;
  timestep = timestep;
}

-- 01's figures unless they say otherwise: standby 0, step 1, layer volume 16
abbrev plain : ℕ → Cylinder
plain layers = cylinder layers (16 * layers) 0 (whole 1)

abbrev wholes : List ℕ → List Float
wholes ns = map whole ns

-- ---- draws

-- layers at 60, and one event: the layers after it, energy withdrawn, volume used and average
abbrev drawn : ℕ → ℕ → ℕ → List ℕ → Float → ℕ → Float → Figure
drawn layers feed volume after energy used average =
    steps (design (plain layers) 60 []) (tank (plain layers) [] (replicate layers (whole 60)) []) (asks (whole feed) (whole volume ∷ []) [] ∷ [])
    (answer 0 (tank (plain layers) [] (wholes after) []) (report energy (whole used) average zero_f []) ∷ [])

-- the double nearest 50.4
abbrev fifty_point_four : Float
fifty_point_four = dbl 0x4049_3333_3333_3333

pub fifty_point_four_nearest : fifty_point_four ≡ round binary64 false 504 10
unfolding of_bits round
fifty_point_four_nearest = refl

-- ---- heaters

-- 160 kW at position 0
abbrev bottom : Heater
bottom = heater (whole 160) zero_f

-- two layers at 40 with it, step after step
abbrev heated : List Step → List Stepped → Figure
heated asked after = steps (design (plain 2) 40 (bottom ∷ [])) (tank (plain 2) (bottom ∷ []) (wholes (40 ∷ 40 ∷ [])) []) asked after

abbrev points : ℕ → ℕ → Step
points lower upper = asks (whole 12) [] (Both (whole lower) (whole upper) ∷ [])

-- both layers, the average, the flag and what was supplied
abbrev warmed : ℕ → ℕ → Bool → ℕ → Stepped
warmed layers average flag supplied =
    answer 0 (tank (plain 2) (bottom ∷ []) (wholes (layers ∷ layers ∷ [])) (flag ∷ []))
    (report zero_f zero_f (whole average) zero_f (line flag (whole supplied) (whole supplied) zero_f 1 ∷ []))

-- standby 27, step 0.125; and two heaters at the bottom
abbrev losing : Cylinder
losing = cylinder 2 32 27 (nearest 125 1000)

abbrev pair : List Heater
pair = heater (whole 1) zero_f ∷ heater (whole 1) zero_f ∷ []

-- a heater that is off, and its losses
abbrev idle : ℕ → HeaterLine
idle losses = line false zero_f zero_f (whole losses) 1

-- four layers at 40 with a heater that is on, set points 50 and 60: the layers after a step, and what it supplied
abbrev of_four : Heater → List ℕ → ℕ → Figure
of_four h after supplied =
    steps (design (plain 4) 40 (h ∷ [])) (tank (plain 4) (h ∷ []) (wholes (40 ∷ 40 ∷ 40 ∷ 40 ∷ [])) []) (points 50 60 ∷ [])
    (answer 0 (tank (plain 4) (h ∷ []) (wholes after) (true ∷ []))
    (report zero_f zero_f (whole 40) zero_f (line true (whole supplied) (whole supplied) zero_f 1 ∷ [])) ∷ [])

-- ---- the table

abbrev pub starred : List Figure
starred =
    -- four layers at 60, feed 12, draw 16: 12, 60, 60, 60; energy 768, average 60
    drawn 4 12 16 (12 ∷ 60 ∷ 60 ∷ 60 ∷ []) (whole 768) 16 (whole 60)
    -- draw 80: all 12, energy 3072, used 64, average the double nearest 50.4
    ∷ drawn 4 12 80 (12 ∷ 12 ∷ 12 ∷ 12 ∷ []) (whole 3072) 64 fifty_point_four
    -- draw 0: unchanged, average 60
    ∷ drawn 4 12 0 (60 ∷ 60 ∷ 60 ∷ 60 ∷ []) zero_f 0 (whole 60)
    -- two layers at 60, feed 70, draw 16: 65, 65, energy -160
    ∷ drawn 2 70 16 (65 ∷ 65 ∷ []) (minus 160) 16 (whole 60)
    -- mix 50, 40: 45, 45 in 1; 20, 30: unchanged in 1; 30, 40, 5: 25 three times in 2; one layer, not-a-number: unchanged in 1
    ∷ mix (wholes (50 ∷ 40 ∷ [])) (whole 16) 0 1 (wholes (45 ∷ 45 ∷ []))
    ∷ mix (wholes (20 ∷ 30 ∷ [])) (whole 16) 0 1 (wholes (20 ∷ 30 ∷ []))
    ∷ mix (wholes (30 ∷ 40 ∷ 5 ∷ [])) (whole 16) 0 2 (wholes (25 ∷ 25 ∷ 25 ∷ []))
    ∷ mix (nan ∷ []) (whole 16) 0 1 (nan ∷ [])
    -- two layers at 40, 160 kW at position 0, set points 50 and 60: after four steps 60, 60, each supplied 160, flag off only after the fourth
    ∷ heated (points 50 60 ∷ points 50 60 ∷ points 50 60 ∷ points 50 60 ∷ [])
    (warmed 45 40 true 160 ∷ warmed 50 45 true 160 ∷ warmed 55 50 true 160 ∷ warmed 60 55 false 160 ∷ [])
    -- set points 41 and 42 instead: 42, 42, supplied 64, off
    ∷ heated (points 41 42 ∷ []) (warmed 42 40 false 64 ∷ [])
    -- two layers at 36, ambient 20, standby 27, step 0.125, two heaters unset: 34.4375 twice, losses 50 then 0, recoverable 37.5
    ∷ steps (design losing 36 pair) (tank losing pair (wholes (36 ∷ 36 ∷ [])) []) (asks (whole 12) [] (Neither ∷ Neither ∷ []) ∷ [])
    (answer 0 (tank losing pair (nearest 344_375 10_000 ∷ nearest 344_375 10_000 ∷ []) [])
    (report zero_f zero_f (whole 36) (nearest 375 10) (idle 50 ∷ idle 0 ∷ [])) ∷ [])
    -- position 0.5 of 4 is layer 2; position 1, which 01 refuses, is layer 3 (02, R-2); lower equal to upper is accepted
    ∷ layer (nearest 5 10) 4 2
    ∷ of_four (heater (whole 160) (nearest 5 10)) (40 ∷ 40 ∷ 45 ∷ 45 ∷ []) 160
    ∷ layer (whole 1) 4 3
    ∷ of_four (heater (whole 16) (whole 1)) (40 ∷ 40 ∷ 40 ∷ 41 ∷ []) 16
    ∷ heated (points 45 45 ∷ []) (warmed 45 40 false 160 ∷ [])
    ∷ []

pub table : All Holds starred
unfolding opened
table =
    (tt, refl, λ r. refl)
    and (tt, refl, λ r. refl)
    and (tt, refl, λ r. refl)
    and (tt, refl, λ r. refl)
    and (refl, refl, refl)
    and (refl, refl, refl)
    and (refl, refl, refl)
    and (refl, refl, refl)
    and (tt, refl, λ r. refl)
    and (tt, refl, λ r. refl)
    and (tt, refl, λ r. refl)
    and refl
    and (tt, refl, λ r. refl)
    and refl
    and (tt, refl, λ r. refl)
    and (tt, refl, λ r. refl)
    and tt

-- ---- beside the table

-- the doubles nearest 40.00000001 and 12.3
abbrev forty_and_a_bit : Float
forty_and_a_bit = dbl 0x4044_0000_0015_798f

pub forty_and_a_bit_nearest : forty_and_a_bit ≡ round binary64 false 4_000_000_001 100_000_000
unfolding of_bits round
forty_and_a_bit_nearest = refl

abbrev twelve_point_three : Float
twelve_point_three = dbl 0x4028_9999_9999_999a

pub twelve_point_three_nearest : twelve_point_three ≡ round binary64 false 123 10
unfolding of_bits round
twelve_point_three_nearest = refl

-- so many layers of a tank of so many litres; and two layers that lose
abbrev sized : ℕ → ℕ → Cylinder
sized layers volume = cylinder layers volume 0 (whole 1)

abbrev losing_hourly : Cylinder
losing_hourly = cylinder 2 32 27 (whole 1)

-- a heater that is on and supplied all it offered
abbrev full : HeaterLine
full = line true (whole 160) (whole 160) zero_f 1

-- the figure without a star, and 01's traps
abbrev pub unstarred : List Figure
unstarred =
    -- not-a-number with 20: refusal 9
    mix (nan ∷ whole 20 ∷ []) (whole 16) 9 0 (nan ∷ whole 20 ∷ [])
    ∷ mix (whole 20 ∷ nan ∷ []) (whole 16) 9 0 (whole 20 ∷ nan ∷ [])
    -- folding cold(v) into feed: 3 litres at 12.3 enter at the next double
    ∷ steps (design (sized 3 9) 60 []) (tank (sized 3 9) [] (wholes (60 ∷ 60 ∷ 60 ∷ [])) []) (asks twelve_point_three (whole 3 ∷ []) [] ∷ [])
    (answer 0 (tank (sized 3 9) [] (dbl 0x4028_9999_9999_999b ∷ whole 60 ∷ whole 60 ∷ []) [])
    (report (dbl 0x4061_e333_3333_3333) (whole 3) (whole 60) zero_f []) ∷ [])
    -- plain sums for Sum2: six times 1 / 6, added plainly, is not 1
    ∷ steps (design (sized 6 1) 60 []) (tank (sized 6 1) [] (replicate 6 (whole 60)) []) (asks (whole 12) (whole 0 ∷ []) [] ∷ [])
    (answer 0 (tank (sized 6 1) [] (replicate 6 (whole 60)) []) (report zero_f zero_f (whole 60) zero_f []) ∷ [])
    -- mixing only strict inversions: 40 under 40.00000001 mixes
    ∷ mix (whole 40 ∷ forty_and_a_bit ∷ []) (whole 16) 0 1 (dbl 0x4044_0000_000a_bcc8 ∷ dbl 0x4044_0000_000a_bcc8 ∷ [])
    -- taking loss from a limited layer: each of its two layers loses 275, which counts and is not taken
    ∷ steps (design losing_hourly 40 (bottom ∷ [])) (tank losing_hourly (bottom ∷ []) (wholes (40 ∷ 40 ∷ [])) []) (points 41 42 ∷ [])
    (answer 0 (tank losing_hourly (bottom ∷ []) (wholes (42 ∷ 42 ∷ [])) [])
    (report zero_f zero_f (whole 40) (nearest 4_125 10) (line false (whole 160) (whole 160) (whole 550) 1 ∷ [])) ∷ [])
    -- switching off by the step's last layers: the first heater leaves 50, under its 55, and the second then takes the layer to 60
    ∷ steps (design (plain 1) 40 (bottom ∷ bottom ∷ [])) (tank (plain 1) (bottom ∷ bottom ∷ []) (whole 40 ∷ []) [])
    (asks (whole 12) [] (Both (whole 41) (whole 55) ∷ Both (whole 60) (whole 70) ∷ []) ∷ [])
    (answer 0 (tank (plain 1) (bottom ∷ bottom ∷ []) (whole 60 ∷ []) (true ∷ true ∷ []))
    (report zero_f zero_f (whole 40) zero_f (full ∷ full ∷ [])) ∷ [])
    ∷ []

pub beside : All Holds unstarred
unfolding opened
beside =
    (refl, refl, refl)
    and (refl, refl, refl)
    and (tt, refl, λ r. refl)
    and (tt, refl, λ r. refl)
    and (refl, refl, refl)
    and (tt, refl, λ r. refl)
    and (tt, refl, λ r. refl)
    and tt
