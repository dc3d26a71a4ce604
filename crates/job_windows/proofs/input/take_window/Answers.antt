-- `input::take_window` meets its contract (01, Job): the window is what was held and what was read after it, and what its records leave begins the next.
use native.Mathlib.Omega.{arith}
use Rattle.job_windows.proofs.Taken.{ran_within, taken}
use Rattle.job_windows.proofs.input.take_window.Goals as goal

pub next_window-requires : goal.next_window-requires
next_window-requires g c =
    let f = c.fill_after in
    let e = c.in_ok-end in
    let w = ran_within g.P.StepPrinter.text c.args.held e.field-0 c.args.buf.now f.new.buf c.args.job c.requires f.ensures.keeps f.ensures.size e.ensures.fits c.in-Ok.ran c.in-Ok.ensures in
    let at = w.0 in
    let before = w.2 in
    let whole = c.requires.0 in
    let bound = c.requires.4 in
    let size = f.ensures.size in
    let fits = e.ensures.fits in
    (at, omega arith, omega arith)

pub returns-in-Ok : goal.returns-in-Ok
returns-in-Ok g c =
    let f = c.fill_after in
    let e = c.in_ok-end in
    let n = c.next_window in
    taken g.P.StepPrinter.text c.args.held e.field-0 c.args.buf.now f.new.buf c.args.job c.requires f.ensures.keeps f.ensures.size e.ensures.fits c.in-Ok.ran c.in-Ok.ensures n.new.buf n.result n.ensures
