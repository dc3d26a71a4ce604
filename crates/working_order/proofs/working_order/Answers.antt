-- `working_order` meets its contract. The loop's invariant: the places from x on hold the heaters from x on, in order.
use native.Mathlib.Omega.{arith}
use Rattle.working_order.specs.Order.{rising_order}
use Rattle.working_order.proofs.Sorting.{sorted_start, sorted_numbers, sorted_next, sorted_end}
use Rattle.working_order.proofs.working_order.Goals as goal

pub loop-x-init : goal.loop-x-init
loop-x-init c = sorted_start _ _ (omega arith)

pub insert_heater-requires : goal.insert_heater-requires
insert_heater-requires c =
    let at = c.loop-x in
    (omega arith, omega arith, at.invariant.long, λ k h u. sorted_numbers _ _ _ _ at.invariant k (omega arith) u)

pub loop-x-preserved : goal.loop-x-preserved
loop-x-preserved c =
    sorted_next _ _ (omega arith) _ _ c.loop-x-test.true c.loop-x.invariant _ c.insert_heater.ensures

pub returns : goal.returns
unfolding rising_order
returns c = sorted_end _ _ _ _ c.loop-x-test.false c.loop-x.invariant
