-- `rearrange_temperatures` meets its contract (01, Mix). The loop's invariant: after k rounds, none of which gave order, the rounds left give the whole mixing.
use mathlib.Core.Path.{◌≡◌}
use mathlib.Core.Bool.{false}
use Prim.Native.Nat.{◌-◌}
use Rattle.mixing.specs.Limits.{max_rounds}
use Rattle.mixing.specs.Rearrange.{rounds, rearrange}
use Rattle.rearrange.proofs.rearrange_temperatures.Given as goal

abbrev pub invariant-loop-k : goal.invariant-loop-k
invariant-loop-k l = rearrange l.n l.vol l.fn.temps ≡ rounds (max_rounds l.n - l.k) false l.k l.n l.vol l.temps
