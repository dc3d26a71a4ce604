-- `kept::KeptSum::volume_used` meets its contract (01, Draw). The loop's invariant: the accumulator has the layers passed, and what is left gives the whole
-- sum.
use Prim.Native.Nat.{◌-◌, ◌+◌}
use Rattle.std.proofs.Common.{◌≡◌, ◌<◌, ◌≤◌, length, drop, arith, length-drop, add-zero}
use Rattle.std.proofs.lemmas.List.{get_or-take, get_or-drop, length-take-le}
use Rattle.numeric.specs.Iterate.{span_start, span_next, span_end}
use Rattle.numeric.specs.Sum2.{sum2_iterate}
use Rattle.draw_off.specs.Draw.{volume_used}
use Rattle.draw_events.proofs.KeptSums.{sum_finished}
use Rattle.draw_events.proofs.kept.KeptSum.volume_used.Goals as goal

pub loop-h-init : goal.loop-h-init
loop-h-init c = rw add-zero (span_start _ _ _ _ c.requires.0)

pub loop-h-preserved : goal.loop-h-preserved
loop-h-preserved c =
    let s = c.args.self.now.layers in
    let n = c.args.tank.now.numbers.layers in
    let held = c.args.held.now in
    let few = c.args.tank.now.few_layers in
    let long : n - s ≤ length (drop s held) = omega (arith, length-drop s held) in
    let below : c.loop-h.h-index < n - s = omega (arith, length-take-le (n - s) (drop s held) long) in
    let next : s + (c.loop-h.h-index + 1) ≡ s + c.loop-h.h-index + 1 = omega arith in
    rw (next, c.add_term-a.ensures, get_or-take, get_or-drop) (span_next _ _ _ _ _ _ (omega arith) c.loop-h.invariant)

pub returns : goal.returns
unfolding volume_used
returns c =
    let s = c.args.self.now.layers in
    let n = c.args.tank.now.numbers.layers in
    let held = c.args.held.now in
    let few = c.args.tank.now.few_layers in
    let long : n - s ≤ length (drop s held) = omega (arith, length-drop s held) in
    let end : n ≤ s + c.loop-h.h-index = omega (arith, length-take-le (n - s) (drop s held) long) in
    rw (sum2_iterate, c.total_of.ensures, span_end _ _ _ _ _ _ end c.loop-h.invariant, sum_finished _ c.args.self.now _ c.requires.0 c.requires.1)
