-- `draw::draw_feed` meets its contract (01, Draw): a rest above zero counts at the feed's temperature, over water at cold(rest).
use Rattle.draw_off.specs.Draw.{draw_feed}
use Rattle.draw_off.proofs.draw.draw_feed.Goals as goal

pub returns-then-d : goal.returns-then-d
unfolding draw_feed
returns-then-d c = λ held. rw (c.if-d.true, ← c.cold_temp.ensures) (c.count_share.ensures held)

pub returns : goal.returns
unfolding draw_feed
returns c = λ held. rw c.if-d.false
