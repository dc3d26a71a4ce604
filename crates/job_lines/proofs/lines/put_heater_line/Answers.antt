-- `lines::put_heater_line` meets its contract (01, Job): its parts, one after the other.
use Rattle.job_lines.proofs.Counts.{flag_number}
use Rattle.job_lines.specs.Put.{writes_then}
use Rattle.job_lines.specs.Lines.{heater_line}
use Rattle.job_lines.proofs.lines.put_heater_line.Goals as goal

pub returns-clause-puts : goal.returns-clause-puts
unfolding heater_line
returns-clause-puts c = rw (← flag_number _ _ c.from.ensures) (writes_then (writes_then (writes_then (writes_then (writes_then (writes_then c.byte.ensures.puts c.number.ensures.puts) c.double.ensures.puts) c.double-2.ensures.puts) c.double-3.ensures.puts) c.number-2.ensures.puts) c.byte-2.ensures.puts)
