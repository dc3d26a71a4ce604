-- `History::print_step` meets its trait's contract (01, Job): the lines of the step's turns.
use Rattle.job_history.specs.History.{step_history}
use Rattle.job_history.proofs.record.HistoryStepPrinter.print_step.Goals as goal

pub returns : goal.returns
unfolding step_history
returns c =
    let told = c.told_step-told.ensures in
    record { steps = told.steps; prints = rw (← told.steps, ← told.turns.tells, ← c.number_in.ensures) c.history_lines-length.ensures }
