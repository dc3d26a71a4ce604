-- `bytes::u32_at` meets its contract (01, Job): the lower byte first.
use Rattle.std.proofs.Common.{ℕ, ◌+◌, ◌<◌, ◌≡◌, get_or, arith, add-zero}
use Rattle.job_records.specs.Bytes.{byte_at, u16_at, u32_at, u64_at}
use Rattle.job_records.proofs.Chunk.{byte_in}
use Rattle.job_records.proofs.bytes.u32_at.Goals as goal

pub returns : goal.returns
unfolding u16_at u32_at u64_at
returns c =
    let a = c.args in
    let chunk = rw c.unwrap.ensures at c.first_chunk.ensures.cases in
    let byte : (i : ℕ) → i < 4 → get_or c.unwrap.result.now i 0 ≡ byte_at a.s.now (a.at + i) = byte_in a.s.now a.at 4 c.unwrap.result.now c.requires chunk in
    let b0 : get_or c.unwrap.result.now 0 0 ≡ byte_at a.s.now a.at = rw add-zero at (byte 0 (omega arith)) in
    let b1 = byte 1 (omega arith) in
    let b2 = byte 2 (omega arith) in
    let b3 = byte 3 (omega arith) in
    let three : a.at + 2 + 1 ≡ a.at + 3 = omega arith in
    rw (three) (omega arith)
