-- `input::run_input` ends (01, Job): each window is one of so many, and the next one is open as this one was.
use Rattle.job_windows.proofs.Taken.{going_start, going_next}
use borrow.Author.Rules.{rules}
use Rattle.job_windows.proofs.input.run_input.Goals as goal

pub loop-window-init : goal.loop-window-init
loop-window-init g c = going_start c.args.space (search rules) c.start-job.result c.start-job.ensures

pub loop-window-preserved : goal.loop-window-preserved
loop-window-preserved g c =
    let at = c.loop-window in
    let t = c.take_window in
    going_next g.P.StepPrinter.text at.space t.new.buf at.job at.held at._window c.in-Ok.next at.invariant c.loop-window-test.true c.in-Ok.ensures
