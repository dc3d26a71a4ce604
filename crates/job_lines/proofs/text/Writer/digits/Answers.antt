-- `Writer::digits` meets its contract (01, Job). The loop's invariant: putting the digits of what is left gives what putting them all gives.
use Rattle.std.proofs.Common.{◌≡◌, suc, ◌-◌, arith}
use native.Mathlib.Nat.{mod-lt}
use Rattle.job_lines.specs.Text.{digits}
use Rattle.job_lines.proofs.Digits.{digits_length, digits_next}
use Rattle.job_lines.proofs.text.Writer.digits.Goals as goal

pub digit-requires : goal.digit-requires
digit-requires c = omega (arith, mod-lt c.loop-i.rest {m = c.args.base} (omega arith))

pub loop-i-preserved : goal.loop-i-preserved
loop-i-preserved c =
    let at = c.loop-i in
    let i = at.invariant in
    let e : at.i ≡ suc (at.i - 1) = omega arith in (
      omega arith,
      rw (c.store.ensures, c.digit.ensures, digits_next at.self.buf.now at.self.at c.args.base (at.i - 1) at.rest) (rw e at i.1),
      i.2,
      i.3,
    )

pub returns-clause-puts : goal.returns-clause-puts
unfolding digits
returns-clause-puts c =
    let at = c.loop-i in
    let i = at.invariant in
    let e : at.i ≡ 0 = omega arith in
    record { same = i.3; puts = record { stands = rw e at i.1; ends = rw (digits_length, i.2) } }
