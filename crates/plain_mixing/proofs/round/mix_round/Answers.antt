-- `round::mix_round` meets its contract (01, Mix). The loop's invariant: the pairs left, from the walk so far, give the whole round; the group starts at or
-- below the next pair.
use mathlib.Core.Path.{ap}
use native.Mathlib.Omega.{arith}
use Rattle.numeric.specs.Iterate.{rest_start, rest_next, rest_end}
use Rattle.mixing.specs.Round.{Walk, one_round}
use Rattle.mixing.proofs.Group.{pair_bottom}
use Rattle.plain_mixing.proofs.round.mix_round.Goals as goal

pub loop-i-init : goal.loop-i-init
loop-i-init c = (omega arith, rest_start _ _ _)

pub loop-i-preserved : goal.loop-i-preserved
loop-i-preserved c =
    let e = c.mix_pair-bottom.ensures in
    (rw (ap (λ (w : Walk). w.bottom) e) (pair_bottom _ _ _ _ c.loop-i.invariant.0), rw e (rest_next _ _ _ _ _ c.loop-i-test.true c.loop-i.invariant.1))

pub returns : goal.returns
unfolding one_round
returns c = ap (λ (w : Walk). w.temps) (rest_end _ _ _ _ _ c.loop-i-test.false c.loop-i.invariant.1)
