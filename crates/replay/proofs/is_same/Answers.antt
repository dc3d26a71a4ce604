-- `is_same` meets its contract (01, Job): what is left of the stored lines, against what is left of the job, decides, and each record leaves fewer.
use Rattle.std.proofs.Common.{length, take, sym, ◌∙◌, eq-eqb, eqb-true, rules}
use Rattle.std.proofs.lemmas.Slice.Eq.{strip_prefix_is}
use borrow.Author.Tests.{not-true, not-false}
use Rattle.job_model.specs.Job.{record_run}
use Rattle.job_model.proofs.Moves.{record_moves}
use Rattle.job_model.proofs.Ends.{record_shortens}
use Rattle.replay.proofs.Comparing.{comparing_start, comparing_next, comparing_differs, comparing_end, record_first}
use Rattle.replay.proofs.is_same.Goals as goal

pub loop-job-init : goal.loop-job-init
loop-job-init c = rw c.start-job.ensures (comparing_start c.args.bytes.now c.args.stored.now)

pub returns-in_default : goal.returns-in_default
returns-in_default c =
    let at = c.loop-job in
    let a = c.args in
    let p = c.next_record-printed in
    let cut = strip_prefix_is (λ x y. (eqb-true x y, eq-eqb x y)) at.rest.now (take p.result.length p.new.buf) c.strip_prefix.result c.strip_prefix.ensures.cases in
    sym (comparing_differs a.bytes.now a.stored.now at.job at.rest.now at.invariant (not-true _ c.loop-job-test.true) (rw (c.in_default.is, record_first p.ensures p.auto.buf (search rules)) at cut))

pub loop-job-smaller : goal.loop-job-smaller
loop-job-smaller c =
    let at = c.loop-job in
    rw c.next_record-printed.ensures.goes
    (record_shortens (record_run c.args.bytes.now) (length c.args.bytes.now) (λ j. record_moves j _ c.args.bytes.now) at.job at.invariant.within (not-true _ c.loop-job-test.true))

pub loop-job-preserved : goal.loop-job-preserved
loop-job-preserved c =
    let at = c.loop-job in
    let a = c.args in
    let p = c.next_record-printed in
    let cut = strip_prefix_is (λ x y. (eqb-true x y, eq-eqb x y)) at.rest.now (take p.result.length p.new.buf) c.strip_prefix.result c.strip_prefix.ensures.cases in
    rw p.ensures.goes
    (comparing_next a.bytes.now a.stored.now at.job at.rest.now at.invariant (not-true _ c.loop-job-test.true) c.in-Some.after.now (rw (c.in-Some.is, record_first p.ensures p.auto.buf (search rules)) at cut))

pub returns : goal.returns
returns c =
    let at = c.loop-job in
    c.is_empty.ensures ∙ sym (comparing_end c.args.bytes.now c.args.stored.now at.job at.rest.now at.invariant (not-false _ c.loop-job-test.false))
