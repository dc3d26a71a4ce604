-- `draw::EventDraw::draw_layers` meets its contract (01, Draw). The loop's invariant: drawing from the layers left gives the whole draw, and leaves as many of
-- them as that does.
use native.Mathlib.Omega.{arith}
use mathlib.Core.Path.{sym, ◌∙◌}
use Rattle.numeric.specs.Descent.{descent_stop, descent_end}
use Rattle.draw_off.proofs.Descents.{draw_descends}
use Rattle.draw_off.proofs.Untouched.{left_start, left_layer, left_stop, left_end}
use Rattle.draw_off.proofs.draw.EventDraw.draw_layers.Goals as goal

pub loop-i-init : goal.loop-i-init
loop-i-init c = left_start _ _ _ _ _ _

pub returns-then-is_no_volume : goal.returns-then-is_no_volume
returns-then-is_no_volume c =
    let left = c.loop-i.invariant in
    let none = sym c.is_no_volume.ensures ∙ c.if-is_no_volume.true in
    record { drawn = rw draw_descends (descent_stop _ _ _ _ _ _ c.loop-i-test.true none left.descent); left = omega (arith, left_stop _ _ _ _ _ _ _ _ left c.loop-i-test.true none, c.loop-i-test.true) }

pub loop-i-preserved : goal.loop-i-preserved
loop-i-preserved c =
    left_layer _ _ _ _ _ _ _ _ _ c.loop-i.invariant c.loop-i-test.true (sym c.is_no_volume.ensures ∙ c.if-is_no_volume.false) c.draw_layer-d.ensures

pub returns : goal.returns
returns c =
    let left = c.loop-i.invariant in
    record { drawn = rw draw_descends (descent_end _ _ _ _ _ _ c.loop-i-test.false left.descent); left = left_end _ _ _ _ _ _ _ _ left c.loop-i-test.false }
