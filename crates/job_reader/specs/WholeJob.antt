-- States a job read to its end (01, Job; The four calls): its records one after the other, each by what came before it, until one is refused; by
-- positions, and through a reader.
use Rattle.std.specs.Prelude.{ℕ, zero, suc, ◌+◌, true, false, cond, List, [], ◌∷◌, ◌≡◌, length, Result, Ok, Err}
use Rattle.refusals.specs.declared.Refusal.{Refusal}
use Rattle.job_records.specs.declared.Before.{Before}
use Rattle.job_records.specs.declared.Record.{Record}
use Rattle.job_records.specs.declared.Record.TheVariants.{Tank, Heater as HeaterCase, Step as StepCase}
use Rattle.job_records.specs.declared.Reading.{Reading}
use Rattle.job_reader.specs.declared.reader.JobReader.{JobReader}
use Rattle.job_records.specs.Records.{read_record}
use Rattle.job_records.specs.Values.{is_refused}
use Rattle.job_reader.specs.Reader.{NextRead}

-- ---- what came before a record: a tank or not, how many heaters, a step or not

abbrev pub nothing_before : Before
nothing_before = record { tank = false; heaters = 0; step = false }

-- with one record more
unfoldable pub counted : Before → Result Record Refusal → Before
counted b (Ok (Tank t)) = record { tank = true; heaters = b.heaters; step = b.step }
counted b (Ok (HeaterCase h)) = record { tank = b.tank; heaters = b.heaters + 1; step = b.step }
counted b (Ok (StepCase p)) = record { tank = b.tank; heaters = b.heaters; step = true }
counted b (Err e) = b

-- ---- by positions

-- the records of a job, and the position where they end
pub record JobRecords : Type 0 where
  pub records : List Reading
  pub end : ℕ

-- one record, then those that follow it
abbrev pub preceded : Reading → JobRecords → JobRecords
preceded r j = record { records = r ∷ j.records; end = j.end }

-- from a position on, so many records at most, until one is refused
unfoldable pub records_from : ℕ → List ℕ → ℕ → Before → JobRecords
records_from zero s at b = record { records = []; end = at }
records_from (suc k) s at b =
    let r = read_record s at b in
    cond (is_refused r.content)
    (record { records = []; end = at })
    (preceded r (records_from k s r.next (counted b r.content)))

-- a record moves the position on, so there are no more of them than bytes
unfoldable pub records_at : List ℕ → ℕ → Before → JobRecords
records_at s at b = records_from (length s + 1) s at b

-- the whole job
abbrev pub job_records : List ℕ → JobRecords
job_records s = records_at s 0 nothing_before

-- ---- through a reader

-- reads one after the other, each as `next` promises, until one is refused: the records that they answer, and the reader that the last one leaves
pub data ReadToEnd : JobReader → Before → List Reading → JobReader → Type 0 where
  refused : (x : JobReader) (b : Before) (r : Reading) (y : JobReader) → NextRead x b r y → is_refused r.content ≡ true
      → ReadToEnd x b [] y
  another : (x : JobReader) (b : Before) (r : Reading) (y : JobReader) (rs : List Reading) (z : JobReader)
      → NextRead x b r y → is_refused r.content ≡ false → ReadToEnd y (counted b r.content) rs z
      → ReadToEnd x b (r ∷ rs) z

-- ---- the two beside each other

-- the same bytes, at another place
abbrev pub placed_at : JobReader → ℕ → JobReader
placed_at x at = record { bytes = x.bytes; at = at }

-- from a reader x on, reads answered the records rs and left the reader z: the records and the end are those by positions, and the bytes are x's
pub record Same (x : JobReader) (j : JobRecords) (rs : List Reading) (z : JobReader) : Type 0 where
  pub records : rs ≡ j.records
  pub end : z ≡ placed_at x j.end
