-- States what reading a job answers (01, The four calls; Job; refusal 11): the record at a position, by what came before it, and the position after it.
use Rattle.std.specs.Prelude.{ℕ, ◌+◌, ◌*◌, Bool, replicate, cond, not, ◌&&◌, List, leb, eqb, length, Some, None, Result, Ok, Err}
use Rattle.numeric.specs.Holds.{holds}
use Rattle.refusals.specs.declared.Refusal.{Refusal}
use Rattle.refusals.specs.Refusals.{refusal_with}
use Rattle.working_order.specs.Order.{max_heaters}
use Rattle.tank_model.specs.declared.Heater.{Heater}
use Rattle.tank_model.specs.declared.TankDesign.{TankDesign}
use Rattle.tank_model.specs.Fixed.{zero_heater}
use Rattle.tank_model.specs.declared.Step.{Step}
use Rattle.job_records.specs.declared.Before.{Before}
use Rattle.job_records.specs.declared.TankRecord.{TankRecord}
use Rattle.job_records.specs.declared.Record.{Record}
use Rattle.job_records.specs.declared.Record.TheVariants.{Tank, Heater as HeaterCase, Step as StepCase}
use Rattle.job_records.specs.declared.Reading.{Reading}
use Rattle.job_records.specs.Bytes.{byte_at, u16_at, u32_at, double_at}
use Rattle.job_records.specs.Fields.{step_volumes_at, is_presence_at, settings_at}

-- a record, and the position after it
abbrev pub read_to : Record → ℕ → Reading
read_to x next = record { content = Ok x; next = next }

-- 11 in place of a record
abbrev pub refused : Result Record Refusal
refused = Err (refusal_with 11)

-- 11, and the same position
abbrev pub refused_at : ℕ → Reading
refused_at at = record { content = refused; next = at }

-- ---- kind 1, the tank: once, and before all others

abbrev pub tank_fields_at : List ℕ → ℕ → TankRecord
tank_fields_at s at = record {
  layers = u16_at s (at + 6);
  volume = double_at s (at + 8);
  standby = double_at s (at + 16);
  initial = double_at s (at + 24);
  rho = double_at s (at + 32);
  cp = double_at s (at + 40);
  ambient = double_at s (at + 48);
  timestep = double_at s (at + 56);
}

abbrev pub tank_record_at : List ℕ → ℕ → Record
tank_record_at s at = Tank (tank_fields_at s at)

unfoldable pub tank_at : List ℕ → ℕ → Before → Result Record Refusal
tank_at s at before = cond (eqb (u32_at s at) 60 && not before.tank && eqb before.heaters 0 && not before.step) (Ok (tank_record_at s at)) refused

-- a tank's design, with no heaters yet
abbrev pub design_of : TankRecord → TankDesign
design_of t = record {
  layers = t.layers;
  volume = t.volume;
  standby = t.standby;
  initial = t.initial;
  rho = t.rho;
  cp = t.cp;
  ambient = t.ambient;
  timestep = t.timestep;
  heaters = 0;
  fitted = replicate max_heaters zero_heater;
}

-- ---- kind 2, a heater: after a tank and before any step

-- an absent thermostat's double is ignored
abbrev pub heater_fields_at : List ℕ → ℕ → ℕ → Heater
heater_fields_at s at presence = record {
  rated = double_at s (at + 6);
  position = double_at s (at + 14);
  thermostat = cond (eqb presence 0) None (Some (double_at s (at + 23)));
}

unfoldable pub heater_record_at : List ℕ → ℕ → ℕ → Record
heater_record_at s at presence = HeaterCase (heater_fields_at s at presence)

unfoldable pub heater_at : List ℕ → ℕ → Before → Result Record Refusal
heater_at s at before =
    cond (eqb (u32_at s at) 27 && before.tank && not before.step && leb (byte_at s (at + 22)) 1)
    (Ok (heater_record_at s at (byte_at s (at + 22))))
    refused

-- ---- kind 3, a step: after a tank

-- how many volumes the record says that it holds, and where its set-point entries begin
abbrev pub events_at : List ℕ → ℕ → ℕ
events_at s at = u16_at s (at + 14)

abbrev pub entries_at : List ℕ → ℕ → ℕ
entries_at s at = at + 16 + 8 * events_at s at

abbrev pub step_size_at : List ℕ → ℕ → ℕ → ℕ
step_size_at s at heaters = 12 + 8 * events_at s at + 17 * heaters

unfoldable pub step_fields_at : List ℕ → ℕ → ℕ → Step
step_fields_at s at heaters = record {
  feed = double_at s (at + 6);
  events = events_at s at;
  volumes = step_volumes_at s (at + 16) (events_at s at);
  entries = heaters;
  settings = settings_at s (entries_at s at) heaters;
}

abbrev pub step_record_at : List ℕ → ℕ → ℕ → Record
step_record_at s at heaters = StepCase (step_fields_at s at heaters)

unfoldable pub step_at : List ℕ → ℕ → Before → Result Record Refusal
step_at s at before =
    cond (eqb (u32_at s at) (step_size_at s at before.heaters) && before.tank && holds (is_presence_at s (entries_at s at)) before.heaters 0)
    (Ok (step_record_at s at before.heaters))
    refused

-- ---- the record at a position

-- by the two bytes of the kind; all others are refused
unfoldable pub by_kind : List ℕ → ℕ → Before → Result Record Refusal
by_kind s at before =
    let kind = u16_at s (at + 4) in
    cond (eqb kind 1) (tank_at s at before) (cond (eqb kind 2) (heater_at s at before) (cond (eqb kind 3) (step_at s at before) refused))

-- length and kind are there, and all that the length counts
abbrev pub is_whole : List ℕ → ℕ → Bool
is_whole s at = leb (at + 6) (length s) && leb (at + 4 + u32_at s at) (length s)

-- past the length field and what it counts; the same position where the record is refused
abbrev pub reading_at : List ℕ → ℕ → Result Record Refusal → Reading
reading_at s at (Ok x) = read_to x (at + 4 + u32_at s at)
reading_at s at (Err e) = record { content = Err e; next = at }

unfoldable pub content_at : List ℕ → ℕ → Before → Result Record Refusal
content_at s at before = cond (leb before.heaters max_heaters && is_whole s at) (by_kind s at before) refused

unfoldable pub read_record : List ℕ → ℕ → Before → Reading
read_record s at before = reading_at s at (content_at s at before)
