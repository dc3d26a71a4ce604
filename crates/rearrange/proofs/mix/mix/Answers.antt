-- `mix::mix`, the call, meets its contract (01, The four calls): refusals 1 and 3 in the definition's order, and else the mixing.
use mathlib.Core.Path.{◌≡◌}
use Rattle.mixing.specs.Mix.{mix_refusal}
use Rattle.mixing.proofs.Answers.{mix_answered}
use Rattle.rearrange.proofs.mix.mix.Goals as goal

pub returns-then-is_count_refused : goal.returns-then-is_count_refused
unfolding mix_refusal
returns-then-is_count_refused c =
    let e : mix_refusal c.args.layers.now c.args.layer_volume ≡ 1 = rw (← c.is_count_refused.ensures, c.if-is_count_refused.true) in
    mix_answered _ _ _ _ (rw e) (rw e)

pub returns-then-not-is_finite_above_zero : goal.returns-then-not-is_finite_above_zero
unfolding mix_refusal
returns-then-not-is_finite_above_zero c =
    let e : mix_refusal c.args.layers.now c.args.layer_volume ≡ 3 = rw (← c.is_count_refused.ensures, c.if-is_count_refused.false, ← c.is_finite_above_zero.ensures, c.if-not-is_finite_above_zero.true) in
    mix_answered _ _ _ _ (rw e) (rw e)

pub returns : goal.returns
unfolding mix_refusal
returns c =
    let e : mix_refusal c.args.layers.now c.args.layer_volume ≡ 0 = rw (← c.is_count_refused.ensures, c.if-is_count_refused.false, ← c.is_finite_above_zero.ensures, c.if-not-is_finite_above_zero.false) in
    mix_answered _ _ _ _ (rw e c.mix_array.ensures.answers) (rw e c.mix_array.ensures.leaves)
