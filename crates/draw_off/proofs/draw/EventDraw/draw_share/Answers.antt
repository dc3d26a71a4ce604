-- `draw::EventDraw::draw_share` meets its contract (01, Draw): the share, the rest and the cold water are those of the definition.
use Rattle.draw_off.specs.Draw.{draw_share}
use Rattle.draw_off.proofs.draw.EventDraw.draw_share.Goals as goal

pub returns : goal.returns
unfolding draw_share
returns c =
    rw (← c.share_of-v.ensures, ← c.rest_after-rest.ensures, ← c.cold_temp-cool.ensures) (c.count_share.ensures _)
