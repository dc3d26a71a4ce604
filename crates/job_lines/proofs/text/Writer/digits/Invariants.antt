-- `Writer::digits` meets its contract (01, Job). The loop's invariant: putting the digits of what is left gives what putting them all gives.
use Rattle.std.proofs.Common.{◌≡◌, ◌≤◌}
use lib.Seq.{sets}
use Rattle.job_lines.specs.Text.{digits}
use Rattle.job_lines.proofs.text.Writer.digits.Given as goal

abbrev pub invariant-loop-i : goal.invariant-loop-i
invariant-loop-i l =
    (l.i ≤ l.count)
    × (sets l.self.buf.now l.self.at (digits l.base l.i l.rest) ≡ sets l.initial.self.buf.now l.initial.self.at (digits l.base l.count l.n))
    × (l.self.at ≡ l.initial.self.at)
    × (l.self.buf.ghost_name ≡ l.initial.self.buf.ghost_name)
