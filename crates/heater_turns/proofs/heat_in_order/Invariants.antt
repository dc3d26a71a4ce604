-- `heat_in_order` meets its contract (01, Step). The loop's invariant: the turns that are left, from where those worked have come to, end as the whole does.
use Rattle.std.proofs.Common.{length}
use Rattle.heater_turns.specs.Lent.{heating_in}
use Rattle.heater_turns.proofs.TurnLoop.{TurnsSoFar}
use Rattle.heater_turns.proofs.heat_in_order.Given as goal

abbrev pub invariant-loop-h : goal.invariant-loop-h
invariant-loop-h l =
    TurnsSoFar l.tank.numbers l.tank.vol (length l.fitted) l.fitted l.settings l.order
    (heating_in l.initial.state l.initial.notes) l.initial.notes l.h-index (heating_in l.state l.notes) l.notes
