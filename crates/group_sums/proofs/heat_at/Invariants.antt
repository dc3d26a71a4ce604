-- `heat_at` meets its contract (01, Mix). The loop's invariant: adding the terms left gives the whole sum.
use Prim.Native.Nat.{ℕ}
use lib.ListN.{get_or}
use lib.Ieee.{nan}
use Rattle.numeric.specs.Double.{◌⊛◌}
use Rattle.numeric.specs.Iterate.{Span}
use Rattle.numeric.specs.Sum2.{add_at}
use Rattle.group_sums.proofs.heat_at.Given as goal

abbrev pub invariant-loop-k : goal.invariant-loop-k
invariant-loop-k l = Span (add_at (λ (j : ℕ). get_or l.vol j nan ⊛ l.x)) l.end l.initial.k l.initial.heat l.k l.heat
