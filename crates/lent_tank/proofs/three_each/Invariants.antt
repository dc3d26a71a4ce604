-- `three_each` meets its contract (01, The four calls). The loop's invariant: writing the heaters left gives the whole.
use Rattle.std.proofs.Common.{◌≡◌, ℕ, List, [], ◌∷◌, get_or}
use Rattle.std.specs.Prelude.{Float}
use Rattle.numeric.specs.Iterate.{Rest}
use Rattle.working_order.specs.Order.{max_heaters}
use Rattle.lent_tank.proofs.Places.{three_at}
use Rattle.lent_tank.proofs.three_each.Given as goal

abbrev pub invariant-loop-h : goal.invariant-loop-h
invariant-loop-h g l =
    (a b e : g.row.T.Denot → Float) (d : g.row.T.Denot) → ((x : g.row.T.Denot) (r : List Float) → g.F.Fn.post l.numbers (x, tt) r → r ≡ a x ∷ b x ∷ e x ∷ [])
    → Rest (three_at (λ (j : ℕ). a (get_or l.items j d)) (λ (j : ℕ). b (get_or l.items j d)) (λ (j : ℕ). e (get_or l.items j d))) max_heaters l.initial.rows l.h l.rows
