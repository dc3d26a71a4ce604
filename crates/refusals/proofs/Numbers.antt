-- Proves that a refusal's number tells the refusal: no two have one number, and none has 0.
use Rattle.std.specs.Prelude.{◌≡◌, refl, Bool, true, false, cond, Result, Ok, Err}
use Rattle.std.proofs.Common.{sym, ap, ◌∙◌}
use Rattle.refusals.specs.declared.Refusal.{Refusal}
use Rattle.refusals.specs.declared.Refusal.TheVariants.{LayerCount, HeaterCount, NotAboveZero, Temperature, Heater, StepCounts, Draw, LowerAlone, OutOfOrder}
use Rattle.refusals.specs.declared.Refusal.TheVariants.{NotFinite, Record, SetPointNotFinite, LowerAboveUpper}
use Rattle.refusals.specs.Refusals.{number_of, refusal_with}

-- the refusal of a refusal's number is that refusal
pub refusal_with-number : (r : Refusal) → refusal_with (number_of r) ≡ r
refusal_with-number LayerCount = refl
refusal_with-number HeaterCount = refl
refusal_with-number NotAboveZero = refl
refusal_with-number Temperature = refl
refusal_with-number Heater = refl
refusal_with-number StepCounts = refl
refusal_with-number Draw = refl
refusal_with-number LowerAlone = refl
refusal_with-number OutOfOrder = refl
refusal_with-number NotFinite = refl
refusal_with-number Record = refl
refusal_with-number SetPointNotFinite = refl
refusal_with-number LowerAboveUpper = refl

-- so two refusals of one number are one
pub same_number : (r s : Refusal) → number_of r ≡ number_of s → r ≡ s
same_number r s e = sym (refusal_with-number r) ∙ ap refusal_with e ∙ refusal_with-number s

-- a refusal's number is not that of an accepted answer
pub number-not_0 : (r : Refusal) → number_of r ≡ 0 → ⊥
number-not_0 LayerCount h = cc
number-not_0 HeaterCount h = cc
number-not_0 NotAboveZero h = cc
number-not_0 Temperature h = cc
number-not_0 Heater h = cc
number-not_0 StepCounts h = cc
number-not_0 Draw h = cc
number-not_0 LowerAlone h = cc
number-not_0 OutOfOrder h = cc
number-not_0 NotFinite h = cc
number-not_0 Record h = cc
number-not_0 SetPointNotFinite h = cc
number-not_0 LowerAboveUpper h = cc

-- what `unless` answers tells whether it passes
module _ (passes : Bool) (r : Refusal) (answer : Result (Unit {0}) Refusal) (told : answer ≡ cond passes (Ok tt) (Err r)) where
  pub unless_passed : (v : Unit {0}) → answer ≡ Ok v → passes ≡ true
  unless_passed v e = go passes told
    where
      go : (b : Bool) → answer ≡ cond b (Ok tt) (Err r) → b ≡ true
      go true h = refl
      go false h = cc

  pub unless_refused : (s : Refusal) → answer ≡ Err s → (passes ≡ false) × (s ≡ r)
  unless_refused s e = go passes told
    where
      go : (b : Bool) → answer ≡ cond b (Ok tt) (Err r) → (b ≡ false) × (s ≡ r)
      go true h = cc
      go false h = (refl, cc)
