-- `window::run_window` meets its contract (01, Job): the records run so far are the first of the window's, each leaves fewer, and a write that fails ends the loop.
use native.Mathlib.Omega.{arith}
use mathlib.Core.Path.{sym, ap, ◌∙◌}
use lib.ListN.{length}
use Rattle.job_records.specs.Windows.{is_ready}
use Rattle.numeric.specs.Holds.{both}
use Rattle.job_model.proofs.Ends.{record_shortens}
use Rattle.job_model.proofs.WindowLoop.{goes_on, running_start, running_next, running_cut}
use Rattle.job_model.specs.Job.{run_record}
use Rattle.job_windows.proofs.Told.{lines_move}
use borrow.Author.Tests.{not-true}
use Rattle.job_windows.proofs.window.run_window.Goals as goal

pub loop-told-init : goal.loop-told-init
loop-told-init g c =
    let p = c.requires in
    running_start _ _ _ _ (record { placed = p.0; counted = p.2 })

pub returns-in-Err : goal.returns-in-Err
returns-in-Err g c =
    let at = c.loop-told in
    let a = c.args in
    let on = sym c.goes_on.ensures ∙ c.loop-told-test.true in
    record {
      records = at.invariant.records;
      goes = at.invariant.goes;
      told = running_cut _ _ (length a.bytes.now) (lines_move g.P.StepPrinter.text a.bytes.now) _ at.ran.job at.ran.taken at.invariant on c.in-Err.broken.moved (rw c.in-Err.is at c.print_lines-told.ensures.told);
    }

pub loop-told-smaller : goal.loop-told-smaller
loop-told-smaller g c =
    let at = c.loop-told in
    let a = c.args in
    let on = sym c.goes_on.ensures ∙ c.loop-told-test.true in
    rw c.print_lines-told.ensures.goes
    (record_shortens (run_record g.P.StepPrinter.text a.bytes.now) (length a.bytes.now) (lines_move g.P.StepPrinter.text a.bytes.now) at.ran.job at.invariant.within (not-true _ (both _ _ on).0))

pub loop-told-preserved : goal.loop-told-preserved
loop-told-preserved g c =
    let at = c.loop-told in
    let p = c.print_lines-told in
    let a = c.args in
    let on = sym c.goes_on.ensures ∙ c.loop-told-test.true in
    let sent = rw c.in-Ok.is at p.ensures.told in
    let short = p.ensures.short in
    rw p.ensures.goes
    (running_next _ _ (length a.bytes.now) (lines_move g.P.StepPrinter.text a.bytes.now) _ at.ran.job at.ran.taken at.invariant on c.in-Ok.all sent (omega arith))

pub returns : goal.returns
returns g c =
    let at = c.loop-told in
    let a = c.args in
    let off = sym c.goes_on.ensures ∙ c.loop-told-test.false in
    record {
      records = at.invariant.records;
      goes = at.invariant.goes;
      told = record {
        takes = at.invariant.counts;
        stops = ap (goes_on (run_record g.P.StepPrinter.text a.bytes.now) (is_ready a.bytes.now a.last)) at.invariant.goes ∙ off;
      };
    }
