-- `calls::huszmago_step` meets its contract (01, The four calls): a refused step writes nothing, an accepted one what it changes, and the arrays hold its answer.
use Rattle.std.proofs.Common.{◌≡◌, get_or}
use Rattle.tank_model.specs.Fixed.{fixed_by, placed_heaters}
use Rattle.storage_tank.specs.Tank.{fixed_in}
use Rattle.lent_tank.specs.Tanks.{tank_in}
use Rattle.shim.proofs.Kept.{LentLengths, refused_in_place, accepted_in_place}
use Rattle.shim.proofs.calls.huszmago_step.Goals as goal

pub returns-in-Ok : goal.returns-in-Ok
returns-in-Ok c =
    let i = c.args in
    let long : LentLengths i.counts.now i.numbers.now i.totals.now i.figures.now i.rounds.now =
    record { counts_long = c.told-counts; numbers_long = c.told-numbers; totals_long = c.told-totals; figures_long = c.told-figures; rounds_long = c.told-rounds } in
    let t = tank_in i.counts.now i.numbers.now i.temps.now i.heaters.now i.thermostats.now i.flags.now in
    let f : fixed_by c.cylinder_in-c.result (placed_heaters (get_or i.counts.now 1 0) c.fitted_in-fitted.result) ≡ fixed_in t = rw (c.cylinder_in-c.ensures, c.fitted_in-fitted.ensures) in
    let w = rw (c.step_in-a.ensures, c.flags_in-on.ensures) at c.in-Ok.ensures in
    accepted_in_place i.counts.now i.numbers.now i.temps.now i.heaters.now i.thermostats.now i.flags.now i.totals.now i.figures.now i.line_flags.now i.rounds.now long _ _ f _ _ _ c.no_notes-notes.ensures _ w _ c.bytes_of.ensures _ _ _ _ (rw c.of.ensures at c.put_report.ensures)

pub returns-in-Err : goal.returns-in-Err
returns-in-Err c =
    let i = c.args in
    let long : LentLengths i.counts.now i.numbers.now i.totals.now i.figures.now i.rounds.now =
    record { counts_long = c.told-counts; numbers_long = c.told-numbers; totals_long = c.told-totals; figures_long = c.told-figures; rounds_long = c.told-rounds } in
    let t = tank_in i.counts.now i.numbers.now i.temps.now i.heaters.now i.thermostats.now i.flags.now in
    let f : fixed_by c.cylinder_in-c.result (placed_heaters (get_or i.counts.now 1 0) c.fitted_in-fitted.result) ≡ fixed_in t = rw (c.cylinder_in-c.ensures, c.fitted_in-fitted.ensures) in
    let w = rw (c.step_in-a.ensures, c.flags_in-on.ensures) at c.in-Err.ensures in
    rw c.number.ensures (refused_in_place i.counts.now i.numbers.now i.temps.now i.heaters.now i.thermostats.now i.flags.now i.totals.now i.figures.now i.line_flags.now i.rounds.now long _ _ f _ _ _ c.no_notes-notes.ensures _ w)
