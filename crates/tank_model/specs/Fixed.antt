-- States what make fixes, what a step changes, and how what is fixed is read from make's arguments (01, Tank).
use Rattle.std.specs.Prelude.{ℕ, Bool, None, List, unwrap_or, get_or, Float}
use Rattle.std.specs.Float.{nan}
use Rattle.numeric.specs.Double.{zero_f}
use Rattle.numeric.specs.Tabulate.{tabulate}
use Rattle.numeric.specs.Whole.{layer_of}
use Rattle.cylinder.specs.declared.Cylinder.{Cylinder}
use Rattle.cylinder.specs.Layers.{layer_volumes}
use Rattle.immersion_heater.specs.declared.turn.Immersion.{Immersion}
use Rattle.tank_model.specs.declared.Heater.{Heater}
use Rattle.tank_model.specs.declared.TankDesign.{TankDesign}

-- a heater's rated power, its position and its thermostat's
pub record Placed : Type 0 where
  pub rated : Float
  pub position : Float
  pub thermostat : Float

-- a thermostat without a position sits with its heater
abbrev pub placed : Heater → Placed
placed x = record { rated = x.rated; position = x.position; thermostat = unwrap_or x.thermostat x.position }

abbrev pub no_heater : Heater
no_heater = record { rated = nan; position = nan; thermostat = None }

-- a heater of zeros, in a place that is not used
abbrev pub zero_heater : Heater
zero_heater = record { rated = zero_f; position = zero_f; thermostat = None }

abbrev pub not_placed : Placed
not_placed = record { rated = nan; position = nan; thermostat = nan }

-- the first n heaters, as given
unfoldable pub placed_heaters : ℕ → List Heater → List Placed
placed_heaters n fitted = tabulate (λ (h : ℕ). placed (get_or fitted h no_heater)) n 0

-- what make fixes: the cylinder's numbers, each layer's volume from the bottom up, and the heaters
pub record Fixed : Type 0 where
  pub cylinder : Cylinder
  pub vol : List Float
  pub heaters : List Placed

abbrev pub heater_of : Fixed → ℕ → Placed
heater_of f h = get_or f.heaters h not_placed

-- a heater with the layers that a step finds for it in a tank of n: position × layers cut to a whole number, and the top layer for 1 (02, R-2)
abbrev pub immersed : ℕ → Placed → Immersion
immersed n x = record {
  rated = x.rated;
  layer = layer_of x.position n;
  thermostat = layer_of x.thermostat n;
}

abbrev pub immersion_of : Fixed → ℕ → Immersion
immersion_of f h = immersed f.cylinder.layers (heater_of f h)

-- what a step changes: the layers, in the first of these places, and the flags
pub record State : Type 0 where
  pub temps : List Float
  pub flags : List Bool

-- the layers' volumes are filled here, and nowhere else: today they are equal, layer volume = volume / layers
abbrev pub fixed_by : Cylinder → List Placed → Fixed
fixed_by c hs = record { cylinder = c; vol = layer_volumes c; heaters = hs }

-- make's own numbers
abbrev pub fixed_of : TankDesign → Fixed
fixed_of m =
    fixed_by
    (record {
      layers = m.layers;
      volume = m.volume;
      standby = m.standby;
      rho = m.rho;
      cp = m.cp;
      ambient = m.ambient;
      timestep = m.timestep;
    })
    (placed_heaters m.heaters m.fitted)
