-- `text::Writer::number` meets its contract (01, Job): the space, then the decimals.
use Rattle.job_lines.specs.Put.{writes_then}
use Rattle.job_lines.specs.Text.{decimal}
use Rattle.job_lines.proofs.text.Writer.number.Goals as goal

pub returns-clause-puts : goal.returns-clause-puts
unfolding decimal
returns-clause-puts c = rw (← c.width.ensures.is) (writes_then c.byte.ensures.puts c.digits.ensures.puts)
