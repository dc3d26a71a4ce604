-- `lines::refusal_line` meets its contract (01, Job): its parts, one after the other.
use Rattle.std.proofs.Common.{arith}
use Rattle.job_lines.specs.Put.{writes_then, put_whole}
use Rattle.job_lines.specs.Lines.{refusal_line}
use Rattle.job_lines.proofs.lines.refusal_line.Goals as goal

pub returns : goal.returns
unfolding refusal_line
returns c =
    let p = put_whole (writes_then (writes_then (writes_then c.byte.ensures.puts c.number.ensures.puts) c.number-2.ensures.puts) c.byte-2.ensures.puts).puts (omega arith) in
    rw (← c.from.ensures) (record { ends = p.ends; stands = grind (arith, p.stands); short = p.short })
