-- States the reader that carries its bytes (01, Forms Rattle lacks: the lent bytes and a position; The four calls): what it answers, where that leaves it, and
-- what is left to read.
use Rattle.std.specs.Prelude.{ℕ, ◌-◌, cond, List, ◌≡◌, leb, length}
use Rattle.std.specs.Borrow.{Bor}
use Rattle.job_records.specs.declared.Before.{Before}
use Rattle.job_records.specs.declared.Reading.{Reading}
use Rattle.job_reader.specs.declared.reader.JobReader.{JobReader}
use Rattle.job_records.specs.Records.{read_record}
use Rattle.job_records.specs.Values.{is_refused, values_in}
use Rattle.job_records.specs.ReadValues.{read_values, read_next}

-- a reader of these bytes, at their start
abbrev pub new_reader : Bor (List ℕ) → JobReader
new_reader bytes = record { bytes = bytes; at = 0 }

-- how many bytes stand at a place and after it; none past the end
abbrev pub bytes_left : List ℕ → ℕ → ℕ
bytes_left s at = cond (leb at (length s)) (length s - at) 0

-- ---- one read

-- the answer is the record at the reader's place
abbrev pub next_reading : JobReader → Before → Reading
next_reading x before = read_record x.bytes.now x.at before

-- the reader keeps its bytes; it is where it was if the record is refused, and else past the record
abbrev pub next_reader : JobReader → Reading → JobReader
next_reader x r = record { bytes = x.bytes; at = cond (is_refused r.content) x.at r.next }

-- a read by what came before: its answer r, with its number, its values and the position after it, and the reader y that it leaves
pub record NextRead (x : JobReader) (before : Before) (r : Reading) (y : JobReader) : Type 0 where
  pub values : values_in r ≡ read_values x.bytes.now x.at before
  pub next : r.next ≡ read_next x.bytes.now x.at before
  pub answers : r ≡ next_reading x before
  pub leaves : y ≡ next_reader x r
