-- `event::draw_events` meets its contract (01, Draw; Refill; refusals 9 and 10). The loop's invariant: the events left, from where those before them have come
-- to, give what all of them give.
use Rattle.std.proofs.lemmas.Result.{err_from_is_err_and}
use Rattle.draw_events.proofs.Worked.{events_next, events_refused, events_end}
use Rattle.draw_events.proofs.event.draw_events.Goals as goal

pub returns-in_err-draw_event : goal.returns-in_err-draw_event
returns-in_err-draw_event c =
    let w = err_from_is_err_and c.from_residual.result c.from_residual.ensures.1 in
    events_refused _ _ _ _ _ _ _ _ _ _ _ c.loop-wanted-test.true c.loop-wanted.invariant.0 c.draw_event.ensures.event _ c.in_err-draw_event.was _ w.0 w.1 w.2

pub loop-wanted-preserved : goal.loop-wanted-preserved
loop-wanted-preserved c =
    (events_next _ _ _ _ _ _ _ _ _ _ _ c.loop-wanted-test.true c.loop-wanted.invariant.0 c.draw_event.ensures.event _ c.in_ok-draw_event.was, c.draw_event.ensures.keeps)

pub returns : goal.returns
returns c =
    events_end _ _ _ _ _ _ _ _ c.loop-wanted-test.false c.loop-wanted.invariant.0
