-- States what a step answers where the largest double below 1 stands in the place of positions of 1 (02, R-2): the same. tank_model/specs/TopLayer.antt says
-- which heaters are so lowered, and why. And that make keeps the 1 that it was given: a case by computation.
use Rattle.std.specs.Prelude.{◌≡◌, refl, Some, List, [], ◌∷◌, get_or}
use Rattle.refusals.specs.Refusals.{number_in}
use Rattle.std.specs.Float.Ieee.{of_bits, lt}
use Rattle.numeric.specs.Double.{one_f}
use Rattle.numeric.specs.Tabulate.{tabulate}
use Rattle.tank_model.specs.declared.Heater.{Heater}
use Rattle.tank_model.specs.Fixed.{no_heater, placed_heaters}
use Rattle.tank_model.specs.TopLayer.{LoweredHeaters}
use Rattle.storage_tank.specs.declared.StorageTank.{StorageTank}
use Rattle.storage_tank.specs.declared.Stepped.{Stepped}
use Rattle.storage_tank.specs.Tank.{fixed_in}
use Rattle.storage_tank.specs.Calls.{fitted_heaters}

-- a heater in the lid, with its thermostat; make keeps it as it was given
abbrev lid : Heater
lid = record { rated = one_f; position = one_f; thermostat = Some one_f }

pub lid_kept : get_or (fitted_heaters 1 (lid ∷ [])) 0 no_heater ≡ lid
unfolding fitted_heaters tabulate of_bits lt
lid_kept = refl

-- the tank t with other heaters
abbrev pub refitted : StorageTank → List Heater → StorageTank
refitted t fitted = record {
  layers = t.layers;
  volume = t.volume;
  standby = t.standby;
  rho = t.rho;
  cp = t.cp;
  ambient = t.ambient;
  timestep = t.timestep;
  temps = t.temps;
  heaters = t.heaters;
  fitted = fitted;
  flags = t.flags;
}

-- those heaters are the tank's, lowered
abbrev pub LoweredIn : StorageTank → List Heater → Type 0
LoweredIn t fitted = LoweredHeaters (fixed_in t) (placed_heaters t.heaters fitted)

-- two steps' numbers, reports, layers and flags
pub record SameAnswers (x y : Stepped) : Type 0 where
  pub number : number_in x.outcome ≡ number_in y.outcome
  pub report : x.report ≡ y.report
  pub temps : x.tank.temps ≡ y.tank.temps
  pub flags : x.tank.flags ≡ y.tank.flags
