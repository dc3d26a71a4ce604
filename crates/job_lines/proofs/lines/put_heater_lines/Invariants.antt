-- `lines::put_heater_lines` meets its contract (01, Job). The loop's invariant: the lines of the first heaters of the order are put.
use Rattle.std.proofs.Common.{◌+◌, ◌*◌, ◌≤◌}
use Rattle.job_lines.specs.Put.{Writes}
use Rattle.job_lines.specs.Lengths.{heater_bytes}
use Rattle.job_lines.specs.Lines.{joined, ordered_line}
use Rattle.job_lines.proofs.lines.put_heater_lines.Given as goal

abbrev pub invariant-loop-h : goal.invariant-loop-h
invariant-loop-h l = record {
  within : l.w.at ≤ l.initial.w.at + heater_bytes * l.h-index;
  writes : Writes l.initial.w (joined (ordered_line l.order l.lines) l.h-index) l.w;
}
