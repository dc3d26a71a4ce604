-- `kept::sum_first` meets its contract (01, Draw). The loop's invariant: the accumulator has the layers passed, and what is left gives the whole sum.
use Rattle.std.proofs.Common.{◌<◌, ◌≤◌, length, arith}
use Rattle.std.proofs.lemmas.List.{get_or-take, length-take-le}
use Rattle.numeric.specs.Iterate.{rest_next, rest_end}
use Rattle.draw_events.specs.Kept.{sum_of_first}
use Rattle.draw_events.proofs.kept.sum_first.Goals as goal

pub loop-v-preserved : goal.loop-v-preserved
loop-v-preserved c =
    let long : c.args.n ≤ length c.args.vol.now = omega arith in
    let below : c.loop-v.v-index < c.args.n = omega (arith, length-take-le c.args.n c.args.vol.now long) in
    rw (c.add_term-a.ensures, get_or-take) (rest_next _ _ _ _ _ below c.loop-v.invariant)

pub returns : goal.returns
unfolding sum_of_first
returns c =
    let long : c.args.n ≤ length c.args.vol.now = omega arith in
    let end : c.args.n ≤ c.loop-v.v-index = omega (arith, length-take-le c.args.n c.args.vol.now long) in
    rw (rest_end _ _ _ _ _ end c.loop-v.invariant, c.start-a.ensures)
