-- `noted_step` meets its contract (01, The four calls; Step): the step's work decides, and what its turns noted is told.
use Rattle.std.proofs.Common.{◌≡◌}
use Rattle.tank_model.specs.Fixed.{fixed_by, placed_heaters}
use Rattle.storage_tank.specs.Tank.{fixed_in}
use Rattle.storage_tank.proofs.Answers.{step_refused, step_accepted}
use Rattle.storage_tank.proofs.hot_water.noted_step.Goals as goal

pub returns-in-Ok : goal.returns-in-Ok
returns-in-Ok c =
    let t = c.args.t in
    let f : fixed_by c.cylinder.result (placed_heaters t.heaters t.fitted) ≡ fixed_in t = rw c.cylinder.ensures in
    rw c.accepted-stepped.ensures (step_accepted t _ _ _ f _ _ _ c.no_notes-notes.ensures _ c.in-Ok.ensures)

pub returns-in-Err : goal.returns-in-Err
returns-in-Err c =
    let t = c.args.t in
    let f : fixed_by c.cylinder.result (placed_heaters t.heaters t.fitted) ≡ fixed_in t = rw c.cylinder.ensures in
    step_refused t _ _ _ f _ _ _ c.no_notes-notes.ensures _ c.in-Err.ensures
