-- `round::group_temp` meets its contract (01, Mix). The loop's invariant: both accumulators have the terms below k, and what is left gives the whole sums.
use Rattle.numeric.specs.Iterate.{rest_start, rest_next, rest_end}
use Rattle.numeric.specs.Sum2.{sum2_iterate}
use Rattle.mixing.specs.Round.{group_temp}
use Rattle.plain_mixing.proofs.round.group_temp.Goals as goal

pub loop-k-init : goal.loop-k-init
loop-k-init c = (rest_start _ _ _, rest_start _ _ _)

pub loop-k-preserved : goal.loop-k-preserved
loop-k-preserved c =
    let l = c.loop-k-test.true in (
      rw (c.add_term-heat.ensures, c.member_of-m.ensures) (rest_next _ _ _ _ _ l c.loop-k.invariant.0),
      rw (c.add_term-volume.ensures, c.member_of-m.ensures) (rest_next _ _ _ _ _ l c.loop-k.invariant.1),
    )

pub returns : goal.returns
unfolding group_temp
returns c =
    let l = c.loop-k-test.false in
    rw (sum2_iterate, sum2_iterate, c.total_of-2.ensures, c.total_of.ensures, rest_end _ _ _ _ _ l c.loop-k.invariant.0, rest_end _ _ _ _ _ l c.loop-k.invariant.1, c.start-volume.ensures, c.start-heat.ensures)
