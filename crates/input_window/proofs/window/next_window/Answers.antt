-- `window::next_window` meets its contract (01, Job): the bytes from the next record on are moved down, and the job stands at the first of them.
use mathlib.Core.Path.{◌∙◌}
use Rattle.input_window.proofs.Moved.{moved_within}
use Rattle.input_window.proofs.window.next_window.Goals as goal

pub returns : goal.returns
returns c = record { next = rw c.moved_up.ensures; down = c.copy_within.ensures.after ∙ moved_within c.args.job.at c.args.buf.now c.args.end }
