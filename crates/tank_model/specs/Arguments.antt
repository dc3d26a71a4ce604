-- States how demand 3 reads the arguments of make and of a step, in 01's words and none of the work's (01, Tank; Switch-on; Supply and switch-off; Turn):
-- make's numbers, a heater's layers and rated power, the order of work, and what a thermostat layer is to the set points.
use Rattle.std.specs.Prelude.{◌≡◌, ◌⊎◌, List, not, ℕ, ◌<◌, T, unwrap_or, get_or, replicate, Float}
use Rattle.std.specs.Float.{nan}
use Rattle.std.specs.Float.Ieee.{lt, le}
use Rattle.numeric.specs.Double.{◌⊛◌, ◌⊘◌, whole}
use Rattle.numeric.specs.Close.{narrow_close}
use Rattle.numeric.specs.Whole.{layer_of}
use Rattle.mixing.specs.Limits.{max_layers}
use Rattle.cylinder.specs.declared.Cylinder.{Cylinder}
use Rattle.draw_off.specs.declared.cold.Feed.{Feed}
use Rattle.set_points.specs.declared.SetPoints.{SetPoints}
use Rattle.set_points.specs.declared.SetPoints.TheVariants.{Neither, Lower, Upper, Both}
use Rattle.tank_model.specs.declared.TankDesign.{TankDesign}
use Rattle.tank_model.specs.declared.Step.{Step}
use Rattle.tank_model.specs.Fixed.{no_heater}
use Rattle.tank_model.specs.Members.{All, Some, Distinct, Chain}

-- ---- make's numbers

abbrev pub cylinder_of : TankDesign → Cylinder
cylinder_of m = record {
  layers = m.layers;
  volume = m.volume;
  standby = m.standby;
  rho = m.rho;
  cp = m.cp;
  ambient = m.ambient;
  timestep = m.timestep;
}

-- layer volume = volume / layers, of every layer
abbrev pub volumes_of : TankDesign → List Float
volumes_of m = replicate max_layers (m.volume ⊘ whole m.layers)

-- ---- a heater, given as h

abbrev pub rated_of : TankDesign → ℕ → Float
rated_of m h = (get_or m.fitted h no_heater).rated

abbrev pub position_of : TankDesign → ℕ → Float
position_of m h = (get_or m.fitted h no_heater).position

-- a thermostat without a position sits in the heater's layer
abbrev pub thermostat_of : TankDesign → ℕ → Float
thermostat_of m h = unwrap_or (get_or m.fitted h no_heater).thermostat (position_of m h)

-- position × layers cut to a whole number; position 1 is the top layer (02, R-2; `heater_in_the_top`, proofs/TopLayer.antt)
abbrev pub heater_layer : TankDesign → ℕ → ℕ
heater_layer m h = layer_of (position_of m h) m.layers

abbrev pub thermostat_layer : TankDesign → ℕ → ℕ
thermostat_layer m h = layer_of (thermostat_of m h) m.layers

-- rated power × step length, rounded once
abbrev pub max_energy : TankDesign → ℕ → Float
max_energy m h = rated_of m h ⊛ m.timestep

-- ---- the order of work

-- the heater i is worked before j: it is given earlier and j's position is not lower, or it is given later and its position is lower
abbrev pub WorkedBefore : TankDesign → ℕ → ℕ → Type 0
WorkedBefore m i j = ((i < j) × T (le (position_of m i) (position_of m j))) ⊎ ((j < i) × T (not (le (position_of m j) (position_of m i))))

-- each heater, once, and nothing else; and each worked before the next
pub record InWorkingOrder (m : TankDesign) (hs : List ℕ) : Type 0 where
  pub each : (h : ℕ) → h < m.heaters → Some (λ (k : ℕ). h ≡ k) hs
  pub only : All (λ (k : ℕ). k < m.heaters) hs
  pub once : Distinct hs
  pub chain : Chain (WorkedBefore m) hs

-- ---- a step's arguments

-- its feed, by the feed temperature
abbrev pub feed_of : Step → Feed
feed_of a = record { temperature = a.feed }

-- the set points of the heater given as h, and the volume of the event i
abbrev pub set_points_of : Step → ℕ → SetPoints
set_points_of a h = get_or a.settings h Neither

abbrev pub event_volume : Step → ℕ → Float
event_volume a i = get_or a.volumes i nan

-- ---- a thermostat layer at t, and the set points

abbrev pub HasUpper : SetPoints → Type 0
HasUpper Neither = ⊥
HasUpper (Lower l) = ⊥
HasUpper (Upper u) = Unit {0}
HasUpper (Both l u) = Unit {0}

-- at (narrow-close) or under a lower set point
abbrev pub AtOrUnderLower : SetPoints → Float → Type 0
AtOrUnderLower Neither t = ⊥
AtOrUnderLower (Lower l) t = T (lt t l) ⊎ T (narrow_close t l)
AtOrUnderLower (Upper u) t = ⊥
AtOrUnderLower (Both l u) t = T (lt t l) ⊎ T (narrow_close t l)

-- the upper set point is missing, or reached: above or narrow-close
abbrev pub UpperMissingOrReached : SetPoints → Float → Type 0
UpperMissingOrReached Neither t = Unit {0}
UpperMissingOrReached (Lower l) t = Unit {0}
UpperMissingOrReached (Upper u) t = T (lt u t) ⊎ T (narrow_close t u)
UpperMissingOrReached (Both l u) t = T (lt u t) ⊎ T (narrow_close t u)
