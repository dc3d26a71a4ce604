-- `round::group_temp` meets its contract (01, Mix). The loop's invariant: both accumulators have the terms below k, and what is left gives the whole sums.
use Rattle.numeric.specs.Iterate.{Rest}
use Rattle.numeric.specs.Sum2.{add_at}
use Rattle.mixing.specs.Round.{heat_term, volume_term}
use Rattle.plain_mixing.proofs.round.group_temp.Given as goal

abbrev pub invariant-loop-k : goal.invariant-loop-k
invariant-loop-k l = Rest (add_at (heat_term l.vol l.temps l.bottom l.end)) l.n l.initial.heat l.k l.heat × Rest (add_at (volume_term l.vol l.bottom l.end)) l.n l.initial.volume l.k l.volume
