-- `facts::facts_in_order` meets its contract (01, Turn). The loop's invariant: the first k turns stand in the first k places.
use Rattle.std.proofs.Common.{◌≡◌, ap, arith, length}
use Rattle.job_history.specs.declared.Turns.{Turns}
use Rattle.job_history.proofs.TurnsTold.{one_told, all_told}
use Rattle.job_history.proofs.facts.facts_in_order.Goals as goal

pub loop-k-init : goal.loop-k-init
loop-k-init c = ap (λ (x : Turns). x.facts) c.no_turns-r.ensures

pub fact_at-requires : goal.fact_at-requires
fact_at-requires c = c.requires.1 c.loop-k.k c.loop-k-test.true

pub loop-k-preserved : goal.loop-k-preserved
loop-k-preserved c =
    let a = c.args in
    rw (c.loop-k.invariant, c.fact_at.ensures) (one_told a.settings.now a.notes.now a.order.now c.requires.0 c.loop-k.k c.loop-k-test.true)

pub returns : goal.returns
returns c =
    let a = c.args in
    let e : c.loop-k.k ≡ length a.order.now = omega arith in
    let told = rw e at c.loop-k.invariant in
    record { tells = all_told a.settings.now a.notes.now a.order.now c.requires.0 _ told; few = c.requires.0 }
