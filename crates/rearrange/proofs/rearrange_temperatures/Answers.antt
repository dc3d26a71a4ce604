-- `rearrange_temperatures` meets its contract (01, Mix): each round is one of the definition's.
use mathlib.Core.Path.{refl, sym, ap, ◌∙◌}
use mathlib.Core.Bool.{true, false}
use native.Mathlib.Omega.{arith}
use Rattle.mixing.specs.Rearrange.{rearrange}
use Rattle.mixing.specs.Mix.{answer_of, temps_of}
use Rattle.mixing.proofs.Rounds.{rounds_sorted, rounds_none, rounds_next}
use Rattle.rearrange.proofs.rearrange_temperatures.Goals as goal

pub loop-k-init : goal.loop-k-init
unfolding rearrange
loop-k-init c = refl

pub returns-then-work_round : goal.returns-then-work_round
returns-then-work_round c =
    let at = c.loop-k in
    let round = c.work_round.ensures in
    let e = at.invariant ∙ rounds_next _ at.k _ _ _ _ true (omega arith) round.leaves (sym round.tells ∙ c.if-work_round.true) ∙ rounds_sorted _ _ _ _ _ in
    record { answers = sym (ap answer_of e); leaves = sym (ap (temps_of _) e) }

pub loop-k-preserved : goal.loop-k-preserved
loop-k-preserved c =
    let at = c.loop-k in
    let round = c.work_round.ensures in
    at.invariant ∙ rounds_next _ at.k _ _ _ _ false (omega arith) round.leaves (sym round.tells ∙ c.if-work_round.false)

pub returns : goal.returns
returns c =
    let e = c.loop-k.invariant ∙ rounds_none _ _ _ _ _ (omega arith) in
    record { answers = sym (ap answer_of e); leaves = sym (ap (temps_of _) e) }
