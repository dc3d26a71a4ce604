-- States the number, the kind and every value that reading a job gives (01, The four calls; Job; refusal 11): over the bytes, by what came before, and without
-- the enum of the answer. A reading call promises that its answer has them.
use Rattle.std.specs.Prelude.{ℕ, ◌+◌, ◌*◌, ◌/◌, ◌%◌, Bool, true, cond, not, ◌&&◌, ◌||◌, List, ◌≡◌, leb, eqb, Float}
use Rattle.numeric.specs.Double.{zero_f}
use Rattle.numeric.specs.Holds.{holds}
use Rattle.working_order.specs.Order.{max_heaters}
use Rattle.tank_model.specs.Fixed.{zero_heater}
use Rattle.job_records.specs.declared.Before.{Before}
use Rattle.job_records.specs.declared.Reading.{Reading}
use Rattle.job_records.specs.Bytes.{byte_at, u16_at, u32_at, double_at}
use Rattle.job_records.specs.Fields.{no_volumes, no_settings, filled, step_volumes_at, is_presence_at, settings_at}
use Rattle.job_records.specs.Records.{tank_fields_at, heater_fields_at, events_at, entries_at, step_size_at, is_whole, read_record}
use Rattle.job_records.specs.Values.{Entry, no_entries, StepNumbers, Values, zero_tank_record, zero_step, values_in}

-- ---- what refusal 11 refuses, word by word

abbrev pub kind_at : List ℕ → ℕ → ℕ
kind_at s at = u16_at s (at + 4)

abbrev pub is_known_kind : ℕ → Bool
is_known_kind kind = eqb kind 1 || eqb kind 2 || eqb kind 3

-- the length that follows the length field
abbrev pub size_of_kind : ℕ → List ℕ → ℕ → ℕ → ℕ
size_of_kind kind s at heaters = cond (eqb kind 1) 60 (cond (eqb kind 2) 27 (step_size_at s at heaters))

-- the tank once and before all others, a heater after the tank and before any step, a step after the tank
abbrev pub is_placed : ℕ → Before → Bool
is_placed kind before =
    cond (eqb kind 1) (not before.tank && eqb before.heaters 0 && not before.step)
    (cond (eqb kind 2) (before.tank && not before.step) before.tank)

-- a heater's presence byte is 0 or 1, a set-point entry's 0 to 3
abbrev pub are_presences : ℕ → List ℕ → ℕ → ℕ → Bool
are_presences kind s at heaters =
    cond (eqb kind 1) true (cond (eqb kind 2) (leb (byte_at s (at + 22)) 1) (holds (is_presence_at s (entries_at s at)) heaters 0))

-- not cut short, of known kind and length, in its place, its presence bytes within their values, and after no more than 8 heaters
unfoldable pub is_read : List ℕ → ℕ → Before → Bool
is_read s at before =
    let kind = kind_at s at in
    is_whole s at && is_known_kind kind && eqb (u32_at s at) (size_of_kind kind s at before.heaters)
    && is_placed kind before && are_presences kind s at before.heaters && leb before.heaters max_heaters

-- ---- a step's set-point entries

-- by the presence byte, bit 0 lower, bit 1 upper; absent doubles are ignored
unfoldable pub entry_from : ℕ → Float → Float → Entry
entry_from presence lower upper = record {
  presence = presence;
  lower = cond (eqb (presence % 2) 1) lower zero_f;
  upper = cond (eqb (presence / 2 % 2) 1) upper zero_f;
}

-- that of the heater k, lower then upper
abbrev pub entry_at : List ℕ → ℕ → ℕ → Entry
entry_at s at k = entry_from (byte_at s (at + 17 * k)) (double_at s (at + 17 * k + 1)) (double_at s (at + 17 * k + 9))

-- ---- what reading gives: the record's values, or 11, zeros and the same position

unfoldable pub read_kind : List ℕ → ℕ → Before → ℕ
read_kind s at before = cond (is_read s at before) (kind_at s at) 0

-- a step's numbers: its feed temperature, how many volumes it says that it holds, and an entry for each heater
abbrev pub step_numbers_at : List ℕ → ℕ → ℕ → StepNumbers
step_numbers_at s at heaters = record { feed = double_at s (at + 6); events = events_at s at; entries = heaters }

-- each value is that of its kind of record, and zero for all others
unfoldable pub read_values : List ℕ → ℕ → Before → Values
read_values s at before =
    let kind = read_kind s at before in
    record {
      number = cond (is_read s at before) 0 11;
      kind = kind;
      tank = cond (eqb kind 1) (tank_fields_at s at) zero_tank_record;
      heater = cond (eqb kind 2) (heater_fields_at s at (byte_at s (at + 22))) zero_heater;
      step = cond (eqb kind 3) (step_numbers_at s at before.heaters) zero_step;
      volumes = cond (eqb kind 3) (step_volumes_at s (at + 16) (events_at s at)) no_volumes;
      settings = cond (eqb kind 3) (settings_at s (entries_at s at) before.heaters) no_settings;
      entries = cond (eqb kind 3) (filled (entry_at s (entries_at s at)) before.heaters no_entries) no_entries;
    }

-- past the length field and what it counts
unfoldable pub read_next : List ℕ → ℕ → Before → ℕ
read_next s at before = cond (is_read s at before) (at + 4 + u32_at s at) at

-- ---- what a reading call promises of its answer

pub record RecordRead (s : List ℕ) (at : ℕ) (before : Before) (r : Reading) : Type 0 where
  pub values : values_in r ≡ read_values s at before
  pub next : r.next ≡ read_next s at before
  pub answers : r ≡ read_record s at before
