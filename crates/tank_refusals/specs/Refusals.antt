-- States what a lent step is refused for, in relations that the contracts of this crate cite (01, The four calls).
use Rattle.std.specs.Prelude.{ℕ, ◌≡◌, Bool, List, length, Float}
use Rattle.tank_model.specs.declared.Step.{Step}
use Rattle.tank_model.specs.Fixed.{Fixed}
use Rattle.tank_model.specs.FirstRefusal.{first_refusal}
use Rattle.tank_model.specs.Checks.{step_checks, step_refusal}

-- r is the first refusal of a step's arguments, of any tank of n heaters
abbrev pub FirstOfStep : ℕ → Step → ℕ → Type 0
FirstOfStep n a r = (f : Fixed) → length f.heaters ≡ n → r ≡ first_refusal (step_checks f a)

-- r is what a step is refused for before it works, from these layers, whatever the flags are
abbrev pub RefusedFor : Fixed → List Float → Step → ℕ → Type 0
RefusedFor f temps a r = (flags : List Bool) → r ≡ step_refusal f (record { temps = temps; flags = flags }) a
