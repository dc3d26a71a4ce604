-- `JobReader::next` meets its contract (01, Job; Forms Rattle lacks): what the code stores as its place is what the contract says, since a record that is
-- refused has the position of the reader as the one after it.
use Rattle.std.proofs.Common.{ℕ, List, cond, ◌≡◌, sym, ap}
use Rattle.job_records.specs.declared.Before.{Before}
use Rattle.job_records.specs.declared.Reading.{Reading}
use Rattle.job_records.specs.Records.{read_record}
use Rattle.job_records.specs.Values.{is_refused}
use Rattle.job_records.proofs.ReaderLaws.{read_places}
use Rattle.job_reader.specs.declared.reader.JobReader.{JobReader}
use Rattle.job_reader.proofs.reader.JobReader.next.Goals as goal

stored : (s : List ℕ) (at : ℕ) (before : Before) (r : Reading) → r ≡ read_record s at before
    → r.next ≡ cond (is_refused r.content) at r.next
stored s at before r e = rw e (sym (read_places s at before))

pub returns : goal.returns
returns c =
    let x = c.args.self.now in
    let e = c.read_record-r.ensures in
    record {
      values = e.values;
      next = e.next;
      answers = e.answers;
      leaves =
          ap (λ (n : ℕ). let y : JobReader = record { bytes = x.bytes; at = n } in y)
          (stored x.bytes.now x.at c.args.before c.read_record-r.result e.answers);
    }
