-- States what make and a step are refused for before any work, in sentences over their arguments, one relation a number: 1 to 7 in 01's (The four calls), of
-- which 5 begins above 1 (02, R-2), and in 8's place 12, 8 and 13 in 02's (R-1). A refusal's number is that of the first sentence that holds. Nothing here
-- cites a check; proofs/Refusals.antt proves that the checks answer so.
use Rattle.std.specs.Prelude.{◌≡◌, ◌⊎◌, ◌≢◌, List, [], ◌∷◌, ◌++◌, ℕ, zero, suc, ◌+◌, ◌<◌, T, get_or, Float}
use Rattle.std.specs.Float.{nan}
use Rattle.std.specs.Float.Ieee.{lt, le}
use Rattle.std.specs.Float.Ieee.Scale.{finite}
use Rattle.numeric.specs.Double.{zero_f, one_f}
use Rattle.set_points.specs.declared.SetPoints.{SetPoints}
use Rattle.set_points.specs.declared.SetPoints.TheVariants.{Neither, Lower, Upper, Both}
use Rattle.tank_model.specs.declared.TankDesign.{TankDesign}
use Rattle.tank_model.specs.declared.Step.{Step}
use Rattle.tank_model.specs.Fixed.{State}
use Rattle.tank_model.specs.Arguments.{rated_of, position_of, thermostat_of, set_points_of, event_volume}

-- ---- words

abbrev pub NotFinite : Float → Type 0
NotFinite x = ¬ (T (finite x))

abbrev pub BelowZero : Float → Type 0
BelowZero x = T (lt x zero_f)

abbrev pub NotFiniteAndAboveZero : Float → Type 0
NotFiniteAndAboveZero x = ¬ (T (finite x) × T (lt zero_f x))

-- not at least 0, or above 1
abbrev pub NoPosition : Float → Type 0
NoPosition x = ¬ (T (le zero_f x)) ⊎ T (lt one_f x)

-- one of the first n places
abbrev pub SomeBelow : ℕ → (ℕ → Type 0) → Type 0
SomeBelow n P = (k : ℕ) × (k < n) × P k

-- a layer of the tank is not finite
abbrev pub LayerNotFinite : TankDesign → List Float → Type 0
LayerNotFinite m temps = SomeBelow m.layers (λ (k : ℕ). NotFinite (get_or temps k nan))

-- ---- the sentences

-- 1. The layers are none or more than 32.
abbrev pub LayersRefused : TankDesign → Type 0
LayersRefused m = (m.layers ≡ 0) ⊎ (32 < m.layers)

-- 2. The heaters are more than 8.
abbrev pub HeatersRefused : TankDesign → Type 0
HeatersRefused m = 8 < m.heaters

-- 3. Volume, density, specific heat or step length is not finite and above zero.
abbrev pub NumbersRefused : TankDesign → Type 0
NumbersRefused m =
    NotFiniteAndAboveZero m.volume
    ⊎ NotFiniteAndAboveZero m.rho
    ⊎ NotFiniteAndAboveZero m.cp
    ⊎ NotFiniteAndAboveZero m.timestep

-- 4. Standby loss, initial, ambient or a stored layer temperature is not finite, or the standby loss is below zero. `Temperature` says that the initial one is
-- not finite, or one of those in store.
abbrev pub TemperaturesRefused : TankDesign → Type 0 → Type 0
TemperaturesRefused m Temperature = (NotFinite m.standby ⊎ BelowZero m.standby) ⊎ NotFinite m.ambient ⊎ Temperature

-- 5. A rated power is not finite or is below zero, or a heater or thermostat position is not at least 0, or is above 1.
abbrev pub PlacesRefused : TankDesign → Type 0
PlacesRefused m =
    SomeBelow m.heaters
    (λ (h : ℕ). (NotFinite (rated_of m h) ⊎ BelowZero (rated_of m h)) ⊎ NoPosition (position_of m h) ⊎ NoPosition (thermostat_of m h))

-- 6. A step has more than 64 draw events, or not one set-point entry for each heater.
abbrev pub CountsRefused : TankDesign → Step → Type 0
CountsRefused m a = (64 < a.events) ⊎ (a.entries ≢ m.heaters)

-- 7. The feed temperature, or an event's volume, is not finite, or the volume is below zero.
abbrev pub FeedRefused : Step → Type 0
FeedRefused a = NotFinite a.feed ⊎ SomeBelow a.events (λ (i : ℕ). NotFinite (event_volume a i) ⊎ BelowZero (event_volume a i))

-- 12. A present set point is not finite.
abbrev pub PointNotFinite : SetPoints → Type 0
PointNotFinite Neither = ⊥
PointNotFinite (Lower l) = NotFinite l
PointNotFinite (Upper u) = NotFinite u
PointNotFinite (Both l u) = NotFinite l ⊎ NotFinite u

-- 8. The lower set point comes without the upper.
abbrev pub LowerAlone : SetPoints → Type 0
LowerAlone Neither = ⊥
LowerAlone (Lower l) = Unit {0}
LowerAlone (Upper u) = ⊥
LowerAlone (Both l u) = ⊥

-- 13. The lower set point is greater than the upper.
abbrev pub LowerAboveUpper : SetPoints → Type 0
LowerAboveUpper Neither = ⊥
LowerAboveUpper (Lower l) = ⊥
LowerAboveUpper (Upper u) = ⊥
LowerAboveUpper (Both l u) = T (lt u l)

-- ---- the first that holds

-- n is the number of the first sentence that holds, or 0 if none does
abbrev pub FirstOf : List (ℕ × Type 0) → ℕ → Type 0
FirstOf [] n = n ≡ 0
FirstOf (x ∷ xs) n = (x.1 × (n ≡ x.0)) ⊎ (¬ x.1 × FirstOf xs n)

-- for one heater the order is 12, 8, 13
abbrev pub points_sentences : SetPoints → List (ℕ × Type 0)
points_sentences p = (12, PointNotFinite p) ∷ (8, LowerAlone p) ∷ (13, LowerAboveUpper p) ∷ []

-- n heaters' set points, from the heater given as h on: they are looked at in the given order, and the first faulty one decides
abbrev pub settings_sentences : Step → ℕ → ℕ → List (ℕ × Type 0)
settings_sentences a zero h = []
settings_sentences a (suc n) h = points_sentences (set_points_of a h) ++ settings_sentences a n (h + 1)

-- make, and a step for its tank, apply 1 to 5 in order; then a step applies 6 and 7, and then looks at its set points
abbrev pub tank_sentences : TankDesign → Type 0 → List (ℕ × Type 0)
tank_sentences m Temperature =
    (1, LayersRefused m) ∷ (2, HeatersRefused m) ∷ (3, NumbersRefused m) ∷ (4, TemperaturesRefused m Temperature) ∷ (5, PlacesRefused m) ∷ []

abbrev pub argument_sentences : TankDesign → Step → List (ℕ × Type 0)
argument_sentences m a = (6, CountsRefused m a) ∷ (7, FeedRefused a) ∷ []

abbrev pub step_sentences : TankDesign → Step → List (ℕ × Type 0)
step_sentences m a = argument_sentences m a ++ settings_sentences a a.entries 0

-- n is what make is refused for, or 0
abbrev pub MakeRefusal : TankDesign → ℕ → Type 0
MakeRefusal m n = FirstOf (tank_sentences m (NotFinite m.initial)) n

-- n is what a step from the state st is refused for before it works, or 0
abbrev pub StepRefusal : TankDesign → State → Step → ℕ → Type 0
StepRefusal m st a n = FirstOf (tank_sentences m (LayerNotFinite m st.temps) ++ step_sentences m a) n
