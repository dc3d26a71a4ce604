-- `text::Writer::double` meets its contract (01, Job): the space, then the digits of the bits.
use Rattle.job_lines.specs.Put.{writes_then}
use Rattle.job_lines.specs.Text.{hexadecimal}
use Rattle.job_lines.proofs.text.Writer.double.Goals as goal

pub returns-clause-puts : goal.returns-clause-puts
unfolding hexadecimal
returns-clause-puts c = rw (← c.f64_to_bits_with_nan.ensures) (writes_then c.byte.ensures.puts c.digits.ensures.puts)
