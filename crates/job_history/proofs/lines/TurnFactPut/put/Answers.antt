-- `TurnFact::put` meets the contract of its trait: its two parts.
use Rattle.job_lines.specs.Put.{writes_then}
use Rattle.job_history.specs.Lines.{turn_line}
use Rattle.job_history.proofs.lines.TurnFactPut.put.Goals as goal

pub returns-clause-puts : goal.returns-clause-puts
unfolding turn_line
returns-clause-puts c = writes_then c.put_course.ensures.puts c.put_outcome.ensures.puts
