-- `text::width` meets its contract (01, Job): a digit more than the power of ten that the number reaches, and one for 0.
use Rattle.std.proofs.Common.{arith}
use Rattle.job_lines.proofs.Widths.{width_counted, width_of_none}
use Rattle.job_lines.proofs.text.width.Goals as goal

pub returns-in-Some : goal.returns-in-Some
returns-in-Some c =
    let e = c.in-Some.ensures in
    record { is = width_counted _ _ e.bound e.power_le e.next_power_gt; few = omega (arith, e.bound) }

pub returns-in-None : goal.returns-in-None
returns-in-None c = record { is = rw c.in-None.ensures.none width_of_none; few = omega arith }
