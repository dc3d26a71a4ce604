-- `heat::calc_temps_with_energy_input` meets its contract. The loop's invariant: heating the layers left gives the whole.
use Rattle.numeric.specs.Iterate.{rest_next, rest_end}
use Rattle.heating.specs.Heat.{heated}
use Rattle.heating.proofs.heat.calc_temps_with_energy_input.Goals as goal

pub loop-k-preserved : goal.loop-k-preserved
loop-k-preserved c =
    rw c.to_layer-q.ensures (rest_next _ _ _ _ _ c.loop-k-test.true c.loop-k.invariant)

pub returns : goal.returns
unfolding heated
returns c = rest_end _ _ _ _ _ c.loop-k-test.false c.loop-k.invariant
