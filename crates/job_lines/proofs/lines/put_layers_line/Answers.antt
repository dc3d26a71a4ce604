-- `lines::put_layers_line` meets its contract (01, Job): its parts, one after the other.
use Rattle.std.proofs.Common.{arith, length, take_all}
use Rattle.std.specs.Float.{nan}
use Rattle.job_lines.specs.Put.{writes_then}
use Rattle.job_lines.specs.Text.{double_text}
use Rattle.job_lines.specs.Lines.{layers_text, layers_line}
use Rattle.job_lines.proofs.Texts.{texts_joined}
use Rattle.job_lines.proofs.lines.put_layers_line.Goals as goal

pub returns-clause-puts : goal.returns-clause-puts
unfolding layers_text layers_line
returns-clause-puts c =
    let a = c.args in
    let n = length a.temps.now in
    rw (← texts_joined double_text a.temps.now nan n (omega arith), take_all n a.temps.now (omega arith))
    (writes_then (writes_then c.byte.ensures.puts c.put_all.ensures.puts) c.byte-2.ensures.puts)
