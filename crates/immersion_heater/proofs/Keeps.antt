-- Proves that a turn keeps the number of places and what stands past the layers (01, Turn).
use mathlib.Core.Bool.{Bool}
use mathlib.Core.List.{List}
use lib.ListN.{get_or}
use lib.Ieee.{Float, nan}
use Rattle.numeric.specs.Places.{Keeps}
use Rattle.cylinder.specs.declared.Cylinder.{Cylinder}
use Rattle.set_points.specs.declared.SetPoints.{SetPoints}
use Rattle.heating.proofs.Keeps.{final_temps_keep}
use Rattle.immersion_heater.specs.declared.turn.Immersion.{Immersion}
use Rattle.heater_switches.specs.Switch.{switch_on}
use Rattle.immersion_heater.specs.Turn.{offers, after_heat, turn}

module _ (c : Cylinder) (vol : List Float) (h : Immersion) (p : SetPoints) (temps charged : List Float) where
  pub turn_keeps_temps : (flag : Bool) → Keeps c.layers temps (turn c vol h p temps charged flag).temps
  unfolding turn after_heat
  turn_keeps_temps flag =
      final_temps_keep c vol p h.layer (offers c vol h p temps charged (switch_on p (get_or temps h.thermostat nan) flag)) temps charged
