-- `HeaterLosses::lose_heat` meets its contract. The loop's invariant: the layers and the charges passed are done, those left are as they were, and the
-- accumulator has the losses below k.
use Prim.Native.Nat.{ℕ}
use lib.Ieee.{Float}
use Rattle.numeric.specs.Double.{◌⊕◌}
use Rattle.numeric.specs.Iterate.{Rest}
use Rattle.numeric.specs.InPlace.{Updating}
use Rattle.numeric.specs.Sum2.{add_at}
use Rattle.cylinder.specs.Layers.{heat_capacity}
use Rattle.layer_losses.specs.Loss.{limited_temp}
use Rattle.thermal_losses.specs.Losses.{warmed, loss_at}
use Rattle.thermal_losses.proofs.HeaterLosses.lose_heat.Given as goal

abbrev pub invariant-loop-k : goal.invariant-loop-k
invariant-loop-k l =
    let p = l.self.points in
    let vol = l.self.tank.now.vol in
    let before = l.self.before.now in
    let mixed = l.initial.layers.temps in
    let charged = l.initial.layers.charged in
    let lost = loss_at l.c vol p before mixed charged in
    let limited = λ (j : ℕ) (t : Float). limited_temp p (warmed l.c vol p before mixed charged j) t (lost j) (heat_capacity l.c vol j) in
    Updating limited l.c.layers mixed l.k l.layers.temps ×
    Updating (λ (j : ℕ) (x : Float). x ⊕ lost j) l.c.layers charged l.k l.layers.charged ×
    Rest (add_at lost) l.c.layers l.initial.a l.k l.a
