-- `working_order` meets its contract. The loop's invariant: the places from x on hold the heaters from x on, in order.
use Rattle.std.proofs.Common.{length}
use Rattle.working_order.specs.Order.{comes_before, position_in}
use Rattle.working_order.proofs.Sorting.{Sorted}
use Rattle.working_order.proofs.working_order.Given as goal

abbrev pub invariant-loop-x : goal.invariant-loop-x
invariant-loop-x l = Sorted (comes_before (position_in l.positions)) (length l.positions) l.x l.order
