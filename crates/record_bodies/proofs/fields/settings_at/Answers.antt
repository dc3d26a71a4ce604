-- `fields::settings_at` meets its contract (01, Job): the first n places are filled.
use Rattle.std.proofs.Common.{◌≡◌, arith, length, take}
use Rattle.std.proofs.lemmas.List.{length-take-le}
use Rattle.job_records.specs.Fields.{no_settings, setting_at, settings_at}
use Rattle.record_bodies.proofs.fields.settings_at.Goals as goal

pub returns : goal.returns
unfolding settings_at
returns c =
    let a = c.args in
    let many : length (take a.n no_settings) ≡ a.n = length-take-le a.n no_settings (omega arith) in
    let filled = rw many at (c.fill_from.ensures (setting_at a.s.now a.at) (λ k b x l e told. rw e at told)) in
    rw filled
