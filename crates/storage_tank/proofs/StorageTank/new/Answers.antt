-- `StorageTank::new`, the call make, meets its contract (01, The four calls).
use Rattle.std.proofs.Common.{sym}
use Rattle.tank_model.proofs.Passes.{made_heaters}
use Rattle.storage_tank.proofs.Answers.{made_refused, made_accepted, made_layers}
use Rattle.storage_tank.proofs.StorageTank.new.Goals as goal

pub new_tank-tank-requires : goal.new_tank-tank-requires
new_tank-tank-requires c = (made_layers _ c.in-Ok.ensures, made_heaters _ (sym c.in-Ok.ensures))

pub returns-in-Ok : goal.returns-in-Ok
returns-in-Ok c = rw (c.in-Ok.is, c.new_tank-tank.ensures) (made_accepted _ c.in-Ok.ensures)

pub returns-in-Err : goal.returns-in-Err
returns-in-Err c = rw (c.in-Err.is, c.zero_tank-tank.ensures) (made_refused _ _ c.in-Err.ensures)
