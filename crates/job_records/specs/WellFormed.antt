-- States which records are well formed, and what each holds (01, Job; refusal 11), as relations between the bytes, what came before, and the reading.
use Rattle.std.specs.Prelude.{ℕ, ◌+◌, ◌*◌, ◌≤◌, ◌<◌, true, false, List, ◌≡◌, length}
use Rattle.working_order.specs.Order.{max_heaters}
use Rattle.job_records.specs.declared.Before.{Before}
use Rattle.job_records.specs.declared.Reading.{Reading}
use Rattle.job_records.specs.Bytes.{byte_at, u16_at, u32_at}
use Rattle.job_records.specs.Records.{read_to, tank_record_at, heater_record_at, step_record_at, entries_at, step_size_at}

-- a record of this kind and length stands at the position, and all that its length counts is there
pub record Stands (s : List ℕ) (at kind size : ℕ) : Type 0 where
  pub sized : u32_at s at ≡ size
  pub named : u16_at s (at + 4) ≡ kind
  pub there : at + 4 + size ≤ length s

-- the tank comes once and before all others, a heater after a tank and before any step, a step after a tank; never more than 8 heaters came before
pub data WellFormed (s : List ℕ) (at : ℕ) (before : Before) : Reading → Type 0 where
  tank_record : Stands s at 1 60 → before.tank ≡ false → before.heaters ≡ 0 → before.step ≡ false
      → WellFormed s at before (read_to (tank_record_at s at) (at + 64))
  heater_record : Stands s at 2 27 → before.tank ≡ true → before.heaters ≤ max_heaters → before.step ≡ false → byte_at s (at + 22) ≤ 1
      → WellFormed s at before (read_to (heater_record_at s at (byte_at s (at + 22))) (at + 31))
  step_record : Stands s at 3 (step_size_at s at before.heaters) → before.tank ≡ true → before.heaters ≤ max_heaters
      → ((k : ℕ) → k < before.heaters → byte_at s (entries_at s at + 17 * k) ≤ 3)
      → WellFormed s at before (read_to (step_record_at s at before.heaters) (at + 4 + u32_at s at))
