-- `check_each` meets its contract (01, The four calls). The loop's invariant: the items before the index pass.
use Rattle.std.proofs.Common.{◌≡◌, ℕ, length}
use Rattle.refusals.specs.Refusals.{number_in}
use Rattle.tank_model.specs.FirstRefusal.{Searched}
use Rattle.tank_refusals.proofs.FirstRefusal.{number_at}
use Rattle.tank_refusals.proofs.checks.check_each.Given as goal

abbrev pub invariant-loop-x : goal.invariant-loop-x
invariant-loop-x g l =
    (number : g.row.T.Denot → ℕ) (d : g.row.T.Denot) → ((x : g.row.T.Denot) (r : _) → g.C.Fn.post l.check (x, tt) r → number_in r ≡ number x)
    → Searched (number_at number d l.items) (length l.items) l.x-index
