-- States what the split of 01's refusal 8 did to a step's answer (02, R-1): its number, and nothing else. tank_model/specs/EightSplit.antt keeps 01's check.
use Rattle.std.specs.Prelude.{◌≡◌}
use Rattle.refusals.specs.Refusals.{number_in}
use Rattle.tank_model.specs.declared.Step.{Step}
use Rattle.tank_model.specs.EightSplit.{old_work, EightSplit}
use Rattle.storage_tank.specs.declared.StorageTank.{StorageTank}
use Rattle.storage_tank.specs.declared.Report.{Report}
use Rattle.storage_tank.specs.declared.Stepped.{Stepped}
use Rattle.storage_tank.specs.Tank.{fixed_in, state_in}
use Rattle.storage_tank.specs.Calls.{answer}

-- what a step answers with 01's check of set points
unfoldable pub old_stepped : StorageTank → Report → Step → Stepped
old_stepped t r a = answer t r (old_work (fixed_in t) (state_in t) a).end

-- where the number was 8 it is 8, 12 or 13, and nowhere else; every other number, and tank and report always, are as they were
pub record AnswerSplit (old new : Stepped) : Type 0 where
  pub number : EightSplit (number_in old.outcome) (number_in new.outcome)
  pub tank : new.tank ≡ old.tank
  pub report : new.report ≡ old.report
