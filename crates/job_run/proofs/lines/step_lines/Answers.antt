-- `lines::step_lines` meets its contract (01, Job): by what the step answers; the order of the lines is the step's own.
use Rattle.std.proofs.Common.{◌<◌, ◌≤◌, length, refl, arith}
use Rattle.std.proofs.lemmas.List.{get_or-take, length-take-le}
use borrow.Author.Tests.{ne_eqb}
use Rattle.refusals.proofs.Numbers.{number-not_0}
use Rattle.tank_model.specs.Fixed.{placed_heaters, fixed_by}
use Rattle.tank_model.proofs.Order.{first_in_taken}
use Rattle.storage_tank.specs.Tank.{fixed_in}
use Rattle.job_lines.proofs.Counts.{cut_by_min}
use Rattle.job_model.specs.StepLines.{step_lines}
use Rattle.job_run.proofs.lines.step_lines.Goals as goal

pub returns-in-Err : goal.returns-in-Err
unfolding step_lines
returns-in-Err c = rw (c.in-Err.is, ne_eqb _ 0 (number-not_0 c.in-Err.refusal)) c.refused_lines.ensures

pub accepted_lines-requires : goal.accepted_lines-requires
accepted_lines-requires c =
    let n = c.min-heaters.result in
    let few : n ≤ length c.args.s.tank.fitted = omega arith in
    let taken = length-take-le n c.args.s.tank.fitted few in
    let order = c.order_of_work-order.result in
    let many = length-take-le n order (omega arith) in (
      omega arith,
      λ k l.
          let m : k < n = omega arith in
          let e = c.order_of_work-order.ensures.below k (omega arith) in
          let t = get_or-take n order k 0 m in
          omega arith,
    )

pub returns : goal.returns
unfolding step_lines
returns c =
    let a = c.args in
    let t = a.s.tank in
    let n = c.min-heaters.result in
    let f = fixed_by (fixed_in t).cylinder (placed_heaters n t.fitted) in
    let few : n ≤ length t.fitted = omega arith in
    let order = first_in_taken n t.fitted _ f few c.order_of_work-order.ensures.order refl in
    let many = length-take-le n c.order_of_work-order.result (omega arith) in
    rw (c.in_default.is, ← (cut_by_min _ _ _ c.min-heaters.ensures).is, ← order) (rw many at c.accepted_lines.ensures)
