-- `lines::put_point` meets its contract: the set point, or a hyphen for it.
use Rattle.job_lines.specs.Put.{writes_then}
use Rattle.job_history.proofs.lines.put_point.Goals as goal

pub returns-in-Some-clause-puts : goal.returns-in-Some-clause-puts
returns-in-Some-clause-puts c = rw c.in-Some.is c.double.ensures.puts

pub returns-in-None-clause-puts : goal.returns-in-None-clause-puts
returns-in-None-clause-puts c = rw c.in-None.is (writes_then c.byte.ensures.puts c.byte-in-None.ensures.puts)
