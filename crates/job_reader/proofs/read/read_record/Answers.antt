-- `read::read_record`, the call, meets its contract (01, The four calls; refusal 11).
use Rattle.job_records.proofs.ValueLaws.{record_read}
use Rattle.job_reader.proofs.read.read_record.Goals as goal

pub returns : goal.returns
returns c = record_read _ _ _ _ c.reading_at.ensures
