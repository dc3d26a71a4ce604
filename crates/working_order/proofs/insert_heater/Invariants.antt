-- `insert_heater` meets its contract. The loop's invariant: those worked before x have moved down, and inserting x among those left gives the whole.
use Rattle.std.proofs.Common.{length}
use Rattle.working_order.specs.Order.{comes_before, position_in}
use Rattle.working_order.proofs.Insert.{Inserting}
use Rattle.working_order.proofs.insert_heater.Given as goal

abbrev pub invariant-loop-j : goal.invariant-loop-j
invariant-loop-j l = Inserting (comes_before (position_in l.positions)) (length l.positions) l.x l.initial.order l.j l.order
