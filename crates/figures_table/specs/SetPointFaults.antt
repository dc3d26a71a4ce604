-- A third table, of set points that are refused (02, R-1), and the theorem that each figure holds: 12, 8 and 13 each drawn alone and in company, by one heater
-- and by two. An accepted step stands first and last: what is refused between changes nothing. The Rust's judge gives the same lines (compare/asymmetric).
use Rattle.std.specs.Prelude.{ℕ, refl, Bool, true, false, List, [], ◌∷◌, ◌++◌, map, Float}
use Rattle.std.specs.Float.{nan, inf}
use Rattle.std.specs.Float.Ieee.{neg}
use Rattle.numeric.specs.Double.{whole, zero_f}
use Rattle.cylinder.specs.declared.Cylinder.{Cylinder}
use Rattle.set_points.specs.declared.SetPoints.{SetPoints}
use Rattle.set_points.specs.declared.SetPoints.TheVariants.{Neither, Lower, Upper, Both}
use Rattle.tank_model.specs.declared.Heater.{Heater}
use Rattle.tank_model.specs.Members.{All}
use Rattle.storage_tank.specs.declared.Stepped.{Stepped}
use Rattle.figures_table.specs.Figure.{Figure, steps, Holds, ◌and◌, nearest, heater, design, asks, tank, report, line, answer}
use Rattle.figures_table.specs.Opened.{opened}

-- two layers of 16 litres at 40: density, specific heat and step 1, standby 0, ambient 20
abbrev two : Cylinder
two = record { layers = 2; volume = whole 32; standby = zero_f; rho = whole 1; cp = whole 1; ambient = whole 20; timestep = whole 1 }

abbrev both : ℕ → ℕ → SetPoints
both lower upper = Both (whole lower) (whole upper)

abbrev infinite : Float
infinite = inf false

-- the layers after a step, the average, and what each heater supplied, its flag on or off
abbrev after : List Heater → List ℕ → ℕ → List (Bool × ℕ) → ℕ → Stepped
after fitted layers average supplies n =
    answer n (tank two fitted (map whole layers) (map (λ x. x.0) supplies))
    (report zero_f zero_f (whole average) zero_f (map (λ x. line x.0 (whole x.1) (whole x.1) zero_f 1) supplies))

-- a step that is refused: its feed, its set points, and the number
abbrev Row : Type 0
Row = Float × List SetPoints × ℕ

abbrev draws : ℕ → List SetPoints → Row
draws n ps = (whole 12, ps, n)

-- with a feed that is not a number, each draws 7
abbrev and_seven : List Row → List Row
and_seven rows = rows ++ map (λ x. (nan, x.1, 7)) rows

-- two accepted steps that ask for `good`, which answer `first` and `last`, and between them steps that are refused
abbrev between : List Heater → List SetPoints → (ℕ → Stepped) → Stepped → List Row → Figure
between fitted good first last rows =
    steps (design two 40 fitted) (tank two fitted (whole 40 ∷ whole 40 ∷ []) [])
    (asks (whole 12) [] good ∷ (map (λ x. asks x.0 [] x.1) rows ++ asks (whole 12) [] good ∷ []))
    (first 0 ∷ (map (λ x. first x.2) rows ++ last ∷ []))

-- ---- one heater, of 160 kW at the bottom

abbrev one : List Heater
one = heater (whole 160) zero_f ∷ []

-- Equal set points are accepted: 160 kWh make 50 of 40, mixed 45, and then 50 of 45. In between each fault alone, an infinite set point on either side of the
-- other, and one that is both not finite and alone, or not finite and above.
abbrev one_heater : Figure
one_heater =
    between one (both 60 60 ∷ []) (after one (45 ∷ 45 ∷ []) 40 ((true, 160) ∷ [])) (after one (50 ∷ 50 ∷ []) 45 ((true, 160) ∷ []) 0)
    (and_seven
    (draws 12 (Both nan (whole 60) ∷ [])
    ∷ draws 12 (Both (whole 50) nan ∷ [])
    ∷ draws 12 (Both (whole 50) infinite ∷ [])
    ∷ draws 12 (Both infinite (whole 60) ∷ [])
    ∷ draws 12 (Both (neg infinite) (whole 60) ∷ [])
    ∷ draws 12 (Both (whole 60) (neg infinite) ∷ [])
    ∷ draws 12 (Lower nan ∷ [])
    ∷ draws 12 (Lower infinite ∷ [])
    ∷ draws 12 (Upper nan ∷ [])
    ∷ draws 12 (Upper infinite ∷ [])
    ∷ draws 8 (Lower (whole 50) ∷ [])
    ∷ draws 13 (both 60 50 ∷ [])
    ∷ []))

-- ---- two heaters of 160 kW, of which the first as given, in the upper layer, works last

abbrev pair : List Heater
pair = heater (whole 160) (nearest 1 2) ∷ heater (whole 160) zero_f ∷ []

-- 160 kWh make 50 of 40 below, mixed 45, and 55 of 45 above; then 55 of 45 below, and 65 of 55 above, which ends at 60: 16 × 5 = 80 are surplus.
-- In between the first faulty heater as given decides, whatever its fault.
abbrev two_heaters : Figure
two_heaters =
    between pair (both 60 60 ∷ both 60 60 ∷ []) (after pair (45 ∷ 55 ∷ []) 40 ((true, 160) ∷ (true, 160) ∷ []))
    (after pair (55 ∷ 60 ∷ []) 55 ((false, 80) ∷ (true, 160) ∷ []) 0)
    (and_seven
    (draws 13 (both 60 50 ∷ Lower nan ∷ [])
    ∷ draws 13 (Neither ∷ both 60 50 ∷ [])
    ∷ draws 8 (Lower (whole 50) ∷ both 60 50 ∷ [])
    ∷ draws 12 (Upper infinite ∷ Lower (whole 50) ∷ [])
    ∷ draws 8 (both 50 60 ∷ Lower (whole 50) ∷ [])
    ∷ draws 12 (Upper (whole 60) ∷ Both nan (whole 60) ∷ [])
    ∷ []))

-- ---- the table

abbrev pub set_point_faults : List Figure
set_point_faults = one_heater ∷ two_heaters ∷ []

pub table : All Holds set_point_faults
unfolding opened
table = (tt, refl, λ r. refl) and (tt, refl, λ r. refl) and tt
