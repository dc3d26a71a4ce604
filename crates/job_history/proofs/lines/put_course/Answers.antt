-- `lines::put_course` meets its contract: its parts, one after the other.
use Rattle.job_lines.specs.Put.{writes_then}
use Rattle.job_history.specs.Lines.{course_text}
use Rattle.job_history.proofs.lines.put_course.Goals as goal

pub returns-clause-puts : goal.returns-clause-puts
unfolding course_text
returns-clause-puts c = writes_then (writes_then (writes_then (writes_then c.byte.ensures.puts c.number.ensures.puts) c.double.ensures.puts) c.double-2.ensures.puts) c.put_points.ensures.puts
