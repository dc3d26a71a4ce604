-- `text::store` meets its contract (01, Job): past the buffer's end nothing is stored.
use mathlib.Core.Path.{sym}
use lib.Seq.{set_out}
use Rattle.job_lines.proofs.text.store.Goals as goal

pub returns-else-at-buf : goal.returns-else-at-buf
returns-else-at-buf c = sym (set_out _ _ _ c.if-at-buf.false)
