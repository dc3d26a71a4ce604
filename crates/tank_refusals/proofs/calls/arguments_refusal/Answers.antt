-- `arguments_refusal` meets its contract (01, The four calls: 6 and 7; 02, R-1): what the slice of the first volumes is refused for is what they are.
use Rattle.std.proofs.Common.{◌≤◌, length, arith}
use Rattle.tank_refusals.proofs.FirstRefusal.{one_by_one, taken_volumes}
use Rattle.tank_refusals.proofs.calls.arguments_refusal.Goals as goal

pub returns-in_err-draws_check : goal.returns-in_err-draws_check
returns-in_err-draws_check c =
    let a = c.args.a.now in
    let few : a.events ≤ length a.volumes = grind arith in
    let e = taken_volumes a.events a.volumes few in
    grind (arith, one_by_one)

pub returns : goal.returns
returns c =
    let a = c.args.a.now in
    let few : a.events ≤ length a.volumes = grind arith in
    let e = taken_volumes a.events a.volumes few in
    grind (arith, one_by_one)
