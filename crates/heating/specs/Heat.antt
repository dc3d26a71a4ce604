-- States what layers are offered, and `calc_temps_with_energy_input` (01, Heat).
use Rattle.std.specs.Prelude.{ℕ, cond, List, eqb, Float}
use Rattle.numeric.specs.Double.{◌⊕◌, ◌⊘◌, zero_f}
use Rattle.numeric.specs.Tabulate.{tabulate}
use Rattle.numeric.specs.Places.{update_first}
use Rattle.numeric.specs.Sum2.{sum2}
use Rattle.cylinder.specs.declared.Cylinder.{Cylinder}
use Rattle.cylinder.specs.Layers.{heat_capacity}

-- one layer is offered q, and 0 the others
unfoldable pub offers_to : ℕ → Float → ℕ → Float
offers_to layer q k = cond (eqb k layer) q zero_f

-- input is Sum2 of all offers
abbrev pub input_of : ℕ → (ℕ → Float) → Float
input_of n offers = sum2 (tabulate offers n 0)

-- each layer gains offer / (density × specific heat × layer volume); the Rust adds the heat drawn by other means, a zero, to the offer
unfoldable pub heated : Cylinder → List Float → (ℕ → Float) → List Float → List Float
heated c vol offers temps = update_first (λ (k : ℕ) (t : Float). t ⊕ (offers k ⊕ zero_f) ⊘ heat_capacity c vol k) c.layers temps
