-- `heat::calc_temps_with_energy_input` meets its contract. The loop's invariant: heating the layers left gives the whole.
use Prim.Native.Nat.{ℕ}
use lib.Ieee.{Float}
use Rattle.numeric.specs.Double.{◌⊕◌, ◌⊘◌, zero_f}
use Rattle.numeric.specs.Iterate.{Rest}
use Rattle.numeric.specs.Places.{update_at}
use Rattle.cylinder.specs.Layers.{heat_capacity}
use Rattle.heating.specs.Heat.{offers_to}
use Rattle.heating.proofs.heat.calc_temps_with_energy_input.Given as goal

abbrev pub invariant-loop-k : goal.invariant-loop-k
invariant-loop-k l = Rest (update_at (λ (j : ℕ) (t : Float). t ⊕ (offers_to l.offer.layer l.offer.energy j ⊕ zero_f) ⊘ heat_capacity l.c l.tank.vol j)) l.c.layers l.initial.temps l.k l.temps
