-- Proves that a step on a tank with positions of 1 answers as one on the same tank with the largest double below 1 in the place of any of them, wherever the
-- order of work is the same (02, R-2).
use mathlib.Core.Path.{refl}
use mathlib.Core.List.{List}
use Rattle.tank_model.specs.declared.Heater.{Heater}
use Rattle.tank_model.specs.declared.Step.{Step}
use Rattle.tank_model.specs.Fixed.{placed_heaters}
use Rattle.tank_model.specs.Run.{End, refused, done}
use Rattle.tank_model.specs.Work.{Outcome, work}
use Rattle.tank_model.proofs.TopLayer as Model
use Rattle.storage_tank.specs.declared.StorageTank.{StorageTank}
use Rattle.storage_tank.specs.declared.Report.{Report}
use Rattle.storage_tank.specs.Tank.{fixed_in, state_in}
use Rattle.storage_tank.specs.Calls.{answer, stepped}
use Rattle.storage_tank.specs.TopLayer.{refitted, LoweredIn, SameAnswers}

module _ (t : StorageTank) (fitted : List Heater) (r : Report) where
  same_end : (e : End Outcome) → SameAnswers (answer (refitted t fitted) r e) (answer t r e)
  unfolding answer
  same_end (refused n) = record { number = refl; report = refl; temps = refl; flags = refl }
  same_end (done s) = record { number = refl; report = refl; temps = refl; flags = refl }

  pub as_just_below : (a : Step) → LoweredIn t fitted → SameAnswers (stepped (refitted t fitted) r a) (stepped t r a)
  unfolding stepped
  as_just_below a k =
      rw (Model.as_just_below (fixed_in t) (placed_heaters t.heaters fitted) k (state_in t) a)
      (same_end (work (fixed_in t) (state_in t) a).end)
