-- States how what make fixes and what a step changes are read in a tank (01, Tank).
use Rattle.tank_model.specs.Fixed.{Fixed, State, placed_heaters, fixed_by}
use Rattle.storage_tank.specs.declared.StorageTank.{StorageTank}

-- what a tank holds
abbrev pub fixed_in : StorageTank → Fixed
fixed_in t =
    fixed_by
    (record {
      layers = t.layers;
      volume = t.volume;
      standby = t.standby;
      rho = t.rho;
      cp = t.cp;
      ambient = t.ambient;
      timestep = t.timestep;
    })
    (placed_heaters t.heaters t.fitted)

abbrev pub state_in : StorageTank → State
state_in t = record { temps = t.temps; flags = t.flags }
