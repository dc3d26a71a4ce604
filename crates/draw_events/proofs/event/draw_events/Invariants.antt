-- `event::draw_events` meets its contract (01, Draw; Refill; refusals 9 and 10). The loop's invariant: the events left, from where those before them have come
-- to, give what all of them give.
use mathlib.Core.Path.{◌≡◌}
use lib.ListN.{drop}
use Rattle.draw_events.specs.Event.{draw_all}
use Rattle.draw_events.specs.Kept.{IsSumOf}
use Rattle.draw_events.proofs.event.draw_events.Given as goal

abbrev pub invariant-loop-wanted : goal.invariant-loop-wanted
invariant-loop-wanted l =
    (draw_all l.tank.numbers l.tank.vol l.feed (drop l.wanted-index l.volumes) 0 l.temps l.totals ≡ draw_all l.tank.numbers l.tank.vol l.feed l.volumes 0 l.initial.temps l.initial.totals) × IsSumOf l.tank.vol l.kept
