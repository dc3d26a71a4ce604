-- `HeaterLosses::sum_surplus` meets its contract. The loop's invariant: adding the layers left gives the whole.
use Prim.Native.Nat.{ℕ}
use lib.Ieee.{Float}
use Rattle.numeric.specs.Double.{◌⊕◌}
use Rattle.numeric.specs.Iterate.{Span}
use Rattle.thermal_losses.specs.Losses.{surplus_at}
use Rattle.thermal_losses.proofs.HeaterLosses.sum_surplus.Given as goal

abbrev pub invariant-loop-k : goal.invariant-loop-k
invariant-loop-k l =
    let surplus = surplus_at l.c l.self.tank.now.vol l.self.points l.self.before.now l.mixed.temps l.mixed.charged in
    Span (λ (j : ℕ) (x : Float). x ⊕ surplus j) l.c.layers l.initial.k l.initial.s l.k l.s
