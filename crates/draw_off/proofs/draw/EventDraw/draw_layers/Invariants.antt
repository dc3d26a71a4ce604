-- `draw::EventDraw::draw_layers` meets its contract (01, Draw). The loop's invariant: drawing from the layers left gives the whole draw, and leaves as many of
-- them as that does.
use Rattle.draw_off.specs.Lent.{draw_of}
use Rattle.draw_off.proofs.Untouched.{LayersLeft}
use Rattle.draw_off.proofs.draw.EventDraw.draw_layers.Given as goal

abbrev pub invariant-loop-i : goal.invariant-loop-i
invariant-loop-i l = LayersLeft l.self.tank.now.numbers l.self.feed l.self.temps.now l.self.wanted l.initial.i (draw_of l.initial.held l.initial.d) l.i (draw_of l.held l.d)
