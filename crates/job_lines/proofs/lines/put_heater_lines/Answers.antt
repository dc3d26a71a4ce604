-- `lines::put_heater_lines` meets its contract (01, Job). The loop's invariant: the lines of the first heaters of the order are put.
use Rattle.std.proofs.Common.{◌≡◌, length, arith}
use Rattle.job_lines.specs.Put.{writes_nothing, writes_then}
use Rattle.job_lines.specs.Lines.{joined, joined_more, ordered_line, heater_lines}
use Rattle.job_lines.proofs.lines.put_heater_lines.Goals as goal

pub loop-h-init : goal.loop-h-init
unfolding joined
loop-h-init c = record { within = omega arith; writes = writes_nothing _ }

pub offset_bounds-lines-h : goal.offset_bounds-lines-h
offset_bounds-lines-h c = omega (arith, c.requires.2 c.loop-h.h-index c.loop-h-test.true)

pub bounds-lines-h : goal.bounds-lines-h
bounds-lines-h c = omega (arith, c.requires.2 c.loop-h.h-index c.loop-h-test.true)

pub loop-h-preserved : goal.loop-h-preserved
loop-h-preserved c = record {
  within = omega arith;
  writes = rw (joined_more (ordered_line c.args.order.now c.args.lines.now) c.loop-h.h-index) (writes_then c.loop-h.invariant.writes c.put_heater_line.ensures.puts);
}

pub returns-clause-puts : goal.returns-clause-puts
unfolding heater_lines
returns-clause-puts c =
    let e : c.loop-h.h-index ≡ length c.args.order.now = omega arith in
    rw e at c.loop-h.invariant.writes
