-- `three_each` meets its contract (01, The four calls). The loop's invariant: writing the heaters left gives the whole.
use Rattle.std.proofs.Common.{◌∙◌, ◌<◌, ◌≤◌, arith}
use Rattle.std.proofs.lemmas.List.{get_or_read}
use Rattle.numeric.specs.Double.{zero_f}
use Rattle.numeric.specs.Iterate.{rest_start, rest_next, rest_end}
use Rattle.working_order.specs.Order.{max_heaters}
use Rattle.lent_tank.proofs.Places.{three_rows}
use Rattle.lent_tank.proofs.three_each.Goals as goal

pub loop-h-init : goal.loop-h-init
loop-h-init g c = λ a b e d says. rest_start _ _ _

pub loop-h-preserved : goal.loop-h-preserved
loop-h-preserved g c =
    λ a b e d says.
    let l : c.loop-h.h < max_heaters = omega arith in
    let item = get_or_read c.args.items.now c.loop-h.h c.index-items-h.result c.loop-h-test.true c.index-items-h.is d in
    rw (says _ _ c.numbers-three.ensures, item) (rest_next _ _ _ _ _ l (c.loop-h.invariant a b e d says))

pub returns : goal.returns
returns g c =
    λ a b e d says.
    let l : max_heaters ≤ c.loop-h.h = omega arith in
    rest_end _ _ _ _ _ l (c.loop-h.invariant a b e d says) ∙ three_rows _ _ _ zero_f
