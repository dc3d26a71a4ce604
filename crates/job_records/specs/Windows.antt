-- States a window of an input (01, Job): its bytes from a position on, and when a record in it can be read as if the whole input were there.
use Rattle.std.specs.Prelude.{ℕ, ◌+◌, ◌*◌, ◌-◌, ◌≤◌, ◌<◌, Bool, ◌||◌, List, ◌≡◌, leb, length}
use Rattle.working_order.specs.Order.{max_heaters}
use Rattle.job_records.specs.declared.Reading.{Reading}
use Rattle.job_records.specs.Bytes.{byte_at}

-- the bytes w stand in the input s from byte k on
pub record Window (s : List ℕ) (k : ℕ) (w : List ℕ) : Type 0 where
  pub inside : k + length w ≤ length s
  pub same : (i : ℕ) → i < length w → byte_at w i ≡ byte_at s (k + i)

-- each is a byte
abbrev pub AreBytes : List ℕ → Type 0
AreBytes s = (i : ℕ) → byte_at s i ≤ 255

-- no record is longer: length and kind, a step's feed and its count of volumes, 65,535 of these, and eight set-point entries
abbrev pub max_record : ℕ
max_record = 16 + 8 * 65535 + 17 * max_heaters

-- the record at a position of a window can be read: it cannot be longer than what is there, or nothing follows the window
abbrev pub is_ready : List ℕ → Bool → ℕ → Bool
is_ready w last at = last || leb (at + max_record) (length w)

-- the same reading at another position
abbrev pub moved_to : ℕ → ℕ → Reading → Reading
moved_to at at' r = record { content = r.content; next = at' + (r.next - at) }
