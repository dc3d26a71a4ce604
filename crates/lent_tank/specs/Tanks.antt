-- States how a tank stands in lent arrays, both ways (01, The four calls: what make answers, and what a step takes and answers).
use Rattle.std.specs.Prelude.{ℕ, ◌≡◌, List, [], ◌∷◌, get_or, Float}
use Rattle.std.specs.Float.{nan}
use Rattle.cylinder.specs.declared.Cylinder.{Cylinder}
use Rattle.tank_model.specs.declared.TankDesign.{TankDesign}
use Rattle.lent_tank.specs.Layout.{fitted_in, thermostats_of}
use Rattle.storage_tank.specs.declared.StorageTank.{StorageTank}
use Rattle.lent_tank.specs.Flags.{flags_in, bytes_of}

-- ---- from arrays

-- counts: layers, heaters; numbers: volume, standby loss, density, specific heat, ambient, step length
abbrev pub cylinder_in : List ℕ → List Float → Cylinder
cylinder_in counts numbers = record {
  layers = get_or counts 0 0;
  volume = get_or numbers 0 nan;
  standby = get_or numbers 1 nan;
  rho = get_or numbers 2 nan;
  cp = get_or numbers 3 nan;
  ambient = get_or numbers 4 nan;
  timestep = get_or numbers 5 nan;
}

-- thermostats and flags are bytes
abbrev pub tank_in : List ℕ → List Float → List Float → List Float → List ℕ → List ℕ → StorageTank
tank_in counts numbers temps heaters thermostats flags =
    let c = cylinder_in counts numbers in
    record {
      layers = c.layers;
      volume = c.volume;
      standby = c.standby;
      rho = c.rho;
      cp = c.cp;
      ambient = c.ambient;
      timestep = c.timestep;
      temps = temps;
      heaters = get_or counts 1 0;
      fitted = fitted_in heaters (flags_in thermostats);
      flags = flags_in flags;
    }

unfoldable pub design_in : List ℕ → List Float → Float → List Float → List ℕ → TankDesign
design_in counts numbers initial heaters thermostats = record {
  layers = get_or counts 0 0;
  volume = get_or numbers 0 nan;
  standby = get_or numbers 1 nan;
  initial = initial;
  rho = get_or numbers 2 nan;
  cp = get_or numbers 3 nan;
  ambient = get_or numbers 4 nan;
  timestep = get_or numbers 5 nan;
  heaters = get_or counts 1 0;
  fitted = fitted_in heaters (flags_in thermostats);
}

-- ---- to arrays

abbrev pub counts_of : StorageTank → List ℕ
counts_of t = t.layers ∷ t.heaters ∷ []

abbrev pub numbers_of : StorageTank → List Float
numbers_of t = t.volume ∷ t.standby ∷ t.rho ∷ t.cp ∷ t.ambient ∷ t.timestep ∷ []

-- the arrays of numbers hold the tank, its heaters apart
pub record TankHeld (t : StorageTank) (counts : List ℕ) (numbers temps : List Float) : Type 0 where
  pub counts_held : counts ≡ counts_of t
  pub numbers_held : numbers ≡ numbers_of t
  pub temps_held : temps ≡ t.temps

-- and the bytes are those of its flags
pub record TankWritten (t : StorageTank) (counts : List ℕ) (numbers temps : List Float) (thermostats flags : List ℕ) : Type 0 where
  pub held : TankHeld t counts numbers temps
  pub thermostats_written : thermostats ≡ bytes_of (thermostats_of t.fitted)
  pub flags_written : flags ≡ bytes_of t.flags
