-- `lines::put_head` meets its contract (01, Job): its parts, one after the other.
use Rattle.job_lines.specs.Put.{writes_then}
use Rattle.job_lines.specs.Lines.{head_text}
use Rattle.job_lines.proofs.lines.put_head.Goals as goal

pub returns-clause-puts : goal.returns-clause-puts
unfolding head_text
returns-clause-puts c = rw (← c.from.ensures) (writes_then (writes_then c.byte.ensures.puts c.number.ensures.puts) c.number-2.ensures.puts)
