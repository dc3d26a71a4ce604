-- The loop of `input::run_input`: each window is one of so many, and the next one is open as this one was.
use Rattle.job_windows.proofs.Taken.{Going}
use Rattle.job_windows.proofs.input.run_input.Given as goal

abbrev pub invariant-loop-window : goal.invariant-loop-window
invariant-loop-window g l = Going l.space l.job l.held l._window
