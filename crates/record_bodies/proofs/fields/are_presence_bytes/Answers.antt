-- `fields::are_presence_bytes` meets its contract (01, Job).
use Rattle.std.proofs.Common.{rules, ◌∙◌, refl, arith}
use borrow.Author.Tests.{tests}
use Rattle.std.proofs.lemmas.Iterator.{YieldsList-from_range}
use Rattle.std.proofs.lemmas.Iterator.Search.{all_from_yields_List}
use Rattle.job_records.specs.Fields.{is_presence_at}
use Rattle.record_bodies.proofs.InRange.{all_in_range}
use Rattle.record_bodies.proofs.fields.are_presence_bytes.Goals as goal

pub returns : goal.returns
returns c =
    let a = c.args in
    all_from_yields_List (is_presence_at a.s.now a.at) _ _ _ c.all.ensures.ran (YieldsList-from_range 0 a.n a.n refl (omega arith)) (λ x b q k. search (rules, tests))
    ∙ all_in_range (is_presence_at a.s.now a.at) a.n 0
