-- `lines::refused_lines` meets its contract (01, Job): its parts, one after the other.
use Rattle.std.proofs.Common.{arith}
use Rattle.job_lines.specs.Put.{writes_then, put_whole}
use Rattle.job_lines.specs.Lines.{refused_lines}
use Rattle.job_lines.proofs.Counts.{cut_by_min}
use Rattle.job_lines.proofs.First.{first_layers}
use Rattle.job_lines.proofs.lines.refused_lines.Goals as goal

pub returns : goal.returns
unfolding refused_lines
returns c =
    let p = put_whole (writes_then (writes_then c.put_head.ensures.puts c.byte.ensures.puts) c.put_layers_line.ensures.puts).puts (omega arith) in
    rw (← c.number.ensures, ← (cut_by_min _ _ _ c.min.ensures).is, ← first_layers c.min.result c.args.temps.now (omega arith)) (record { ends = p.ends; stands = grind (arith, p.stands); short = p.short })
