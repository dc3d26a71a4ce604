-- States the number that 01 (The four calls) and 02 (R-1) give each refusal, and the number of an answer: that of its refusal, 0 where it is accepted.
use Rattle.std.specs.Prelude.{ℕ, cond, eqb, Result, Ok, Err}
use Rattle.refusals.specs.declared.Refusal.{Refusal}
use Rattle.refusals.specs.declared.Refusal.TheVariants.{LayerCount, HeaterCount, NotAboveZero, Temperature, Heater, StepCounts, Draw, LowerAlone, OutOfOrder}
use Rattle.refusals.specs.declared.Refusal.TheVariants.{NotFinite, Record, SetPointNotFinite, LowerAboveUpper}

abbrev pub number_of : Refusal → ℕ
number_of LayerCount = 1
number_of HeaterCount = 2
number_of NotAboveZero = 3
number_of Temperature = 4
number_of Heater = 5
number_of StepCounts = 6
number_of Draw = 7
number_of LowerAlone = 8
number_of OutOfOrder = 9
number_of NotFinite = 10
number_of Record = 11
number_of SetPointNotFinite = 12
number_of LowerAboveUpper = 13

abbrev pub number_in : {A : Type 0} → Result A Refusal → ℕ
number_in (Ok a) = 0
number_in (Err r) = number_of r

-- the refusal of a number; for a number that is none's it is of no use
abbrev pub refusal_with : ℕ → Refusal
refusal_with n =
    cond (eqb n 1) LayerCount
    (cond (eqb n 2) HeaterCount
    (cond (eqb n 3) NotAboveZero
    (cond (eqb n 4) Temperature
    (cond (eqb n 5) Heater
    (cond (eqb n 6) StepCounts
    (cond (eqb n 7) Draw
    (cond (eqb n 8) LowerAlone
    (cond (eqb n 9) OutOfOrder
    (cond (eqb n 10) NotFinite
    (cond (eqb n 11) Record
    (cond (eqb n 12) SetPointNotFinite LowerAboveUpper)))))))))))
