-- States the lines that a step prints (01, Job), from what the call answers: S, L and H where it is accepted, S and L where it is refused.
use Rattle.std.specs.Prelude.{ℕ, ◌≤◌, false, cond, List, ◌≡◌, eqb}
use Rattle.std.proofs.Common.{le-leb}
use Rattle.refusals.specs.Refusals.{number_in}
use Rattle.working_order.specs.Order.{max_heaters}
use Rattle.tank_model.specs.Fixed.{placed_heaters, fixed_by}
use Rattle.tank_model.specs.Order.{working_order}
use Rattle.storage_tank.specs.declared.StorageTank.{StorageTank}
use Rattle.storage_tank.specs.declared.Stepped.{Stepped}
use Rattle.storage_tank.specs.Tank.{fixed_in}
use Rattle.job_lines.specs.Lines.{at_most, refused_lines, accepted_lines}

-- the heaters in working order; a tank says of no more than it has places for
abbrev pub shown_heaters : StorageTank → ℕ
shown_heaters t = at_most t.heaters max_heaters

abbrev pub shown_order : StorageTank → List ℕ
shown_order t = working_order (fixed_by (fixed_in t).cylinder (placed_heaters (shown_heaters t) t.fitted))

-- a step's lines, by its number
unfoldable pub step_lines : ℕ → Stepped → List ℕ
step_lines index s =
    let t = s.tank in
    cond (eqb (number_in s.outcome) 0)
    (accepted_lines index s.report t.layers t.temps (shown_heaters t) (shown_order t))
    (refused_lines index (number_in s.outcome) t.layers t.temps)

-- the order is the step's own, for a tank whose heaters have places
pub shown_order_lem : (t : StorageTank) → t.heaters ≤ max_heaters → shown_order t ≡ working_order (fixed_in t)
unfolding at_most
shown_order_lem t h = rw (le-leb t.heaters max_heaters h)

-- a refused step prints no heater's line
pub refused_lines_lem : (index : ℕ) (s : Stepped) → eqb (number_in s.outcome) 0 ≡ false
    → step_lines index s ≡ refused_lines index (number_in s.outcome) s.tank.layers s.tank.temps
unfolding step_lines
refused_lines_lem index s e = rw e
