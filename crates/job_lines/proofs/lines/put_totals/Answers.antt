-- `lines::put_totals` meets its contract (01, Job): its parts, one after the other.
use Rattle.job_lines.specs.Put.{writes_then}
use Rattle.job_lines.specs.Lines.{totals_text}
use Rattle.job_lines.proofs.lines.put_totals.Goals as goal

pub returns-clause-puts : goal.returns-clause-puts
unfolding totals_text
returns-clause-puts c = writes_then (writes_then (writes_then (writes_then c.double.ensures.puts c.double-2.ensures.puts) c.double-3.ensures.puts) c.double-4.ensures.puts) c.byte.ensures.puts
