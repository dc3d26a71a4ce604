-- States `potential_energy_input` (01, Heat): what a heater offers its layer.
use Rattle.std.specs.Prelude.{Bool, cond, Float}
use Rattle.numeric.specs.Double.{◌⊕◌, zero_f}

-- a heater that is on offers `energy`, which is rated power × step length; one that is off offers 0. It is added to a zero, as in the Rust, so an offer is
-- never -0.
unfoldable pub offer : Bool → Float → Float
offer on energy = zero_f ⊕ cond on energy zero_f
