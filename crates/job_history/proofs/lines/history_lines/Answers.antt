-- `lines::history_lines` meets its contract: its parts, one after the other.
use Rattle.std.proofs.Common.{arith}
use Rattle.job_lines.specs.Put.{writes_then, put_whole}
use Rattle.job_lines.proofs.Texts.{texts_joined}
use Rattle.job_history.specs.Lines.{past_facts, turn_line, turn_lines, history_lines}
use Rattle.job_history.proofs.lines.history_lines.Goals as goal

pub returns : goal.returns
unfolding turn_lines history_lines
returns c =
    let r = c.args.r in
    let p = put_whole (writes_then (writes_then c.put_head.ensures.puts c.byte.ensures.puts) c.put_all.ensures.puts).puts (omega arith) in
    rw (← texts_joined turn_line r.facts past_facts r.count (omega arith)) (record { ends = p.ends; stands = grind (arith, p.stands); short = p.short })
