-- `lines::put_outcome` meets its contract: its parts, one after the other.
use Rattle.job_lines.proofs.Counts.{flag_number}
use Rattle.job_lines.specs.Put.{writes_then}
use Rattle.job_history.specs.Lines.{outcome_text}
use Rattle.job_history.proofs.lines.put_outcome.Goals as goal

pub returns-clause-puts : goal.returns-clause-puts
unfolding outcome_text
returns-clause-puts c = rw (← flag_number _ _ c.from.ensures, ← flag_number _ _ c.from-2.ensures) (writes_then (writes_then (writes_then (writes_then c.number.ensures.puts c.number-2.ensures.puts) c.double.ensures.puts) c.number-3.ensures.puts) c.byte.ensures.puts)
