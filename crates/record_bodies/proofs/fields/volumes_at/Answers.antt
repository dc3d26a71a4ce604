-- `fields::volumes_at` meets its contract (01, Job): the first n places are filled.
use Rattle.std.proofs.Common.{◌≡◌, ℕ, ◌+◌, ◌*◌, arith, length, take}
use Rattle.std.proofs.lemmas.List.{length-take-le}
use Rattle.job_records.specs.Bytes.{double_at}
use Rattle.job_records.specs.Fields.{no_volumes, volumes_at}
use Rattle.record_bodies.proofs.fields.volumes_at.Goals as goal

pub returns : goal.returns
unfolding volumes_at
returns c =
    let a = c.args in
    let many : length (take a.n no_volumes) ≡ a.n = length-take-le a.n no_volumes (omega arith) in
    let filled = rw many at (c.fill_from.ensures (λ (i : ℕ). double_at a.s.now (a.at + 8 * i)) (λ k b x l e told. rw e at told)) in
    rw filled
