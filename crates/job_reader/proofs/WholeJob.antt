-- Proves that a job read to its end through a reader gives the records and the end that it gives by positions (01, Job; Forms Rattle lacks), and that every job is so read.
use Prim.Native.Nat.{ℕ, zero, suc, ◌+◌, ◌-◌, ◌≤◌}
use native.Mathlib.Omega.{arith}
use mathlib.Core.Bool.{Bool, true, false, true≢false}
use mathlib.Core.List.{List, [], ◌∷◌}
use mathlib.Core.Logic.{◌⊎◌, inl, inr}
use mathlib.Core.Path.{◌≡◌, refl, sym, ap, ◌∙◌}
use lib.ListN.{length}
use denote.Ref.{Bor}
use Rattle.job_records.specs.declared.Before.{Before}
use Rattle.job_records.specs.declared.Reading.{Reading}
use Rattle.job_reader.specs.declared.reader.JobReader.{JobReader}
use Rattle.job_records.specs.Records.{refused_at, read_record}
use Rattle.job_records.specs.Values.{is_refused}
use Rattle.job_reader.specs.Reader.{new_reader, next_reading, next_reader, NextRead}
use Rattle.job_records.specs.WellFormed.{WellFormed}
use Rattle.job_reader.specs.WholeJob.{nothing_before, counted, records_from, records_at, job_records, ReadToEnd, refused, another, placed_at, Same}
use Rattle.job_records.proofs.ReadLaws.{read_either, well_formed_moves}
use Rattle.job_records.proofs.ValueLaws.{record_read}

-- ---- so many records are enough from a position on; after one that is not refused, one fewer

abbrev Enough : ℕ → List ℕ → ℕ → Type 0
Enough k s at = length s - at + 1 ≤ k

module _ (s : List ℕ) (at : ℕ) (before : Before) where
  either_fewer : (k : ℕ) (r : Reading) → WellFormed s at before r ⊎ (r ≡ refused_at at) → is_refused r.content ≡ false → Enough (suc k) s at → Enough k s r.next
  either_fewer k r (inl w) f l = let m = well_formed_moves s at before r w in let p = m.0 in let q = m.1 in omega arith
  either_fewer k r (inr e) f l = absurd (true≢false (rw e at f))

  fewer : (k : ℕ) → is_refused (read_record s at before).content ≡ false → Enough (suc k) s at → Enough k s (read_record s at before).next
  fewer k = either_fewer k (read_record s at before) (read_either s at before)

-- ---- one read: where it leaves the reader

abbrev found : JobReader → Before → Reading
found x b = next_reading x b

module _ (x : JobReader) (b : Before) (r : Reading) (y : JobReader) (n : NextRead x b r y) where
  tested : (c : Bool) → is_refused r.content ≡ c → is_refused (found x b).content ≡ c
  tested c f = sym (ap (λ (u : Reading). is_refused u.content) n.answers) ∙ f

  left_there : is_refused r.content ≡ true → y ≡ x
  left_there f = rw f at n.leaves

  left_past : is_refused r.content ≡ false → y ≡ placed_at x (found x b).next
  left_past f = rw (f, n.answers) at n.leaves

-- ---- reads that meet the contract give what positions give

abbrev SameFrom : ℕ → JobReader → Before → List Reading → JobReader → Type 0
SameFrom k x b rs z = Same x (records_from k x.bytes.now x.at b) rs z

module _ (k : ℕ) (x : JobReader) (b : Before) (r : Reading) (y : JobReader) (n : NextRead x b r y) where
  same_end : is_refused r.content ≡ true → SameFrom (suc k) x b [] y
  unfolding records_from
  same_end f = rw (left_there x b r y n f, tested x b r y n true f) (record { records = refl; end = refl })

  same_on : is_refused r.content ≡ false → (rs : List Reading) (z : JobReader) → SameFrom k y (counted b r.content) rs z → SameFrom (suc k) x b (r ∷ rs) z
  unfolding records_from
  same_on f rs z q =
      let p : SameFrom k (placed_at x (found x b).next) (counted b (found x b).content) rs z = rw (left_past x b r y n f, n.answers) at q in
      rw (tested x b r y n false f) (record { records = rw (n.answers, p.records); end = p.end })

  enough_on : is_refused r.content ≡ false → Enough (suc k) x.bytes.now x.at → Enough k y.bytes.now y.at
  enough_on f l = rw (left_past x b r y n f) (fewer x.bytes.now x.at b k (tested x b r y n false f) l)

same_from : (k : ℕ) (x : JobReader) (b : Before) (rs : List Reading) (z : JobReader) → ReadToEnd x b rs z → Enough k x.bytes.now x.at → SameFrom k x b rs z
same_from zero x b rs z d l = absurd (omega arith)
same_from (suc k) x b rs z (refused x' b' r y n f) l = same_end k x b r y n f
same_from (suc k) x b rs z (another x' b' r y rs' z' n f d) l =
    same_on k x b r y n f rs' z (same_from k y (counted b r.content) rs' z d (enough_on k x b r y n f l))

-- ---- what positions give is read so

abbrev ReadFrom : ℕ → JobReader → Before → Type 0
ReadFrom k x b = let j = records_from k x.bytes.now x.at b in ReadToEnd x b j.records (placed_at x j.end)

module _ (k : ℕ) (x : JobReader) (b : Before) where
  abbrev after : JobReader
  after = next_reader x (found x b)

  promised : NextRead x b (found x b) after
  promised =
      let e = record_read x.bytes.now x.at b (found x b) refl in
      record { values = e.values; next = e.next; answers = e.answers; leaves = refl }

  -- by the test of the record at the reader's place
  read_step : (c : Bool) → is_refused (found x b).content ≡ c → (c ≡ false → ReadFrom k (placed_at x (found x b).next) (counted b (found x b).content)) → ReadFrom (suc k) x b
  unfolding records_from
  read_step true f d = rw f (rw (left_there x b (found x b) after promised f) at (refused x b (found x b) after promised f))
  read_step false f d =
      let j = records_from k x.bytes.now (found x b).next (counted b (found x b).content) in
      rw f (another x b (found x b) after j.records (placed_at x j.end) promised f (rw (left_past x b (found x b) after promised f) (d refl)))

read_from : (k : ℕ) (x : JobReader) (b : Before) → Enough k x.bytes.now x.at → ReadFrom k x b
read_from zero x b l = absurd (omega arith)
read_from (suc k) x b l = read_step k x b (is_refused (found x b).content) refl (λ f. read_from k (placed_at x (found x b).next) (counted b (found x b).content) (fewer x.bytes.now x.at b k f l))

-- ---- the theorems

-- from any reader, whatever came before: reads to the end, each as `next` promises, give the records and the end by positions
pub same_records : (x : JobReader) (b : Before) (rs : List Reading) (z : JobReader) → ReadToEnd x b rs z → Same x (records_at x.bytes.now x.at b) rs z
unfolding records_at
same_records x b rs z d = same_from (length x.bytes.now + 1) x b rs z d (omega arith)

-- and there are such reads
pub reads_to_end : (x : JobReader) (b : Before) → let j = records_at x.bytes.now x.at b in ReadToEnd x b j.records (placed_at x j.end)
unfolding records_at
reads_to_end x b = read_from (length x.bytes.now + 1) x b (omega arith)

-- the whole job, through a reader made from its bytes
pub same_job : (bytes : Bor (List ℕ)) (rs : List Reading) (z : JobReader) → ReadToEnd (new_reader bytes) nothing_before rs z → (rs ≡ (job_records bytes.now).records) × (z.at ≡ (job_records bytes.now).end)
same_job bytes rs z d = let q = same_records (new_reader bytes) nothing_before rs z d in (q.records, ap (λ (x : JobReader). x.at) q.end)
