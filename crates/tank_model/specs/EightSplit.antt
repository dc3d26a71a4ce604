-- States how 01's refusal 8 was split in three (02, R-1). 01's check of set points is kept here, so that a step's number with it and its number now can be
-- held against each other. Nothing that runs cites this file: proofs/EightSplit.antt proves what it states of every tank, state and step.
use Rattle.std.specs.Prelude.{◌≡◌, ◌⊎◌, ◌↔◌, ◌≢◌, not, ◌&&◌, List, [], ◌∷◌, ◌++◌, ℕ, ◌<◌}
use Rattle.std.specs.Float.Ieee.{lt}
use Rattle.std.specs.Float.Ieee.Scale.{finite}
use Rattle.cylinder.specs.Layers.{all_finite}
use Rattle.set_points.specs.declared.SetPoints.{SetPoints}
use Rattle.set_points.specs.declared.SetPoints.TheVariants.{Neither, Lower, Upper, Both}
use Rattle.tank_model.specs.declared.TankDesign.{TankDesign}
use Rattle.tank_model.specs.declared.Step.{Step}
use Rattle.tank_model.specs.Fixed.{Fixed, State}
use Rattle.tank_model.specs.FirstRefusal.{first_refusal, first_among}
use Rattle.tank_model.specs.Checks.{unless, tank_checks, points_of, argument_checks}
use Rattle.tank_model.specs.Work.{Work, stop, begin}
use Rattle.tank_model.specs.Arguments.{set_points_of}
use Rattle.tank_model.specs.Course.{number_of}
use Rattle.tank_model.specs.Refusals.{LayerNotFinite, PointNotFinite, LowerAlone, LowerAboveUpper, FirstOf, tank_sentences, argument_sentences}

-- ---- before the split

-- 8. A present set point is not finite, or the lower one comes without the upper, or is greater than it (01, The four calls).
unfoldable pub old_points_check : SetPoints → ℕ
old_points_check Neither = 0
old_points_check (Lower l) = 8
old_points_check (Upper u) = unless (finite u) 8
old_points_check (Both l u) = unless (finite l && finite u && not (lt u l)) 8

-- the checks of a step's arguments, with it in the place of today's
abbrev pub old_step_checks : Fixed → Step → List ℕ
old_step_checks f a = argument_checks f a ++ first_among (λ (h : ℕ). old_points_check (points_of a h)) a.entries ∷ []

-- what a step is refused for by these before it works, and its work
unfoldable pub old_step_refusal : Fixed → State → Step → ℕ
old_step_refusal f st a = first_refusal (tank_checks f (all_finite f.cylinder.layers st.temps) ++ old_step_checks f a)

unfoldable pub old_work : Fixed → State → Step → Work
old_work f st a = begin f st a (old_step_refusal f st a)

-- ---- the split

-- one of the three that 8 became
abbrev pub OneOfThree : ℕ → Type 0
OneOfThree n = (n ≡ 8) ⊎ (n ≡ 12) ⊎ (n ≡ 13)

-- where the number was 8 it is one of the three, and nowhere else; every other number is as it was
pub record EightSplit (old new : ℕ) : Type 0 where
  pub eight : (old ≡ 8) ↔ OneOfThree new
  pub others : old ≢ 8 → new ≡ old

-- a step's work with 01's check, and now: it was refused with 8 before it worked, and is with one of the three; or it is as it was, and ends with none of them
abbrev pub WorkSplit : Work → Work → Type 0
WorkSplit old new =
    ((old ≡ stop 8) × ((n : ℕ) × OneOfThree n × (new ≡ stop n)))
    ⊎ ((new ≡ old) × ¬ (OneOfThree (number_of old.end)))

-- ---- the first faulty heater

-- none of 1 to 7 holds
abbrev pub PassedToSeven : TankDesign → State → Step → Type 0
PassedToSeven m st a = FirstOf (tank_sentences m (LayerNotFinite m st.temps) ++ argument_sentences m a) 0

abbrev pub Faulty : SetPoints → Type 0
Faulty p = PointNotFinite p ⊎ LowerAlone p ⊎ LowerAboveUpper p

-- of the heaters in the given order, h is the first whose set points are faulty
pub record FirstFaulty (a : Step) (h : ℕ) : Type 0 where
  pub within : h < a.entries
  pub faulty : Faulty (set_points_of a h)
  pub before : (j : ℕ) → j < h → ¬ (Faulty (set_points_of a j))
