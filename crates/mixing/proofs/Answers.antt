-- Proves that the answer of mix has 01's number and rounds (01, The four calls; refusals 1, 3 and 9), case by case.
use Prim.Native.Nat.{ℕ}
use mathlib.Core.Bool.{Bool, true, false, cond, ◌&&◌, ◌||◌}
use mathlib.Core.List.{List}
use mathlib.Core.Path.{◌≡◌, refl, ap, ◌∙◌}
use lib.Dec.{eqb, ltb}
use lib.Ieee.{Float, lt}
use lib.Ieee.Scale.{finite}
use lib.ListN.{length}
use Rattle.std.specs.Prelude.{Result, Err}
use Rattle.refusals.specs.declared.Refusal.{Refusal}
use Rattle.refusals.specs.Refusals.{number_in, refusal_with}
use Rattle.numeric.specs.Double.{zero_f}
use Rattle.mixing.specs.Limits.{max_layers}
use Rattle.mixing.specs.Rearrange.{Mixing, sorted, unsorted}
use Rattle.mixing.specs.Mix.{mix_refusal, mixing, mixing_number, mixing_rounds, mix_number, mix_rounds, mix_layers, rounds_of, answer_of, mix_answer, MixAnswered}

-- accepted or not by the first refusals, and then by the mixing m; what refuses is 1 or 3
number_is : (a b : Bool) (m : Mixing) → (λ (n : ℕ). number_in (cond (eqb n 0) (answer_of m) (Err (refusal_with n))) ≡ cond (eqb n 0) (mixing_number m) n) (cond a 1 (cond b 0 3))
number_is true b m = refl
number_is false true (sorted after k) = refl
number_is false true unsorted = refl
number_is false false m = refl

rounds_is : (b : Bool) (m : Mixing) (r : Refusal) → rounds_of (cond b (answer_of m) (Err r)) ≡ cond b (mixing_rounds m) 0
rounds_is true (sorted after k) r = refl
rounds_is true unsorted r = refl
rounds_is false m r = refl

module _ (layers : List Float) (volume : Float) where
  pub mix_number_lem : number_in (mix_answer layers volume) ≡ mix_number layers volume
  unfolding mix_number mix_refusal
  mix_number_lem = number_is (eqb (length layers) 0 || ltb max_layers (length layers)) (finite volume && lt zero_f volume) (mixing layers volume)

  pub mix_rounds_lem : rounds_of (mix_answer layers volume) ≡ mix_rounds layers volume
  unfolding mix_rounds
  mix_rounds_lem = rounds_is (eqb (mix_refusal layers volume) 0) (mixing layers volume) (refusal_with (mix_refusal layers volume))

  -- the law: the answer and the layers by their definitions are all that the call promises
  pub mix_answered : (answer : Result ℕ Refusal) (after : List Float) → answer ≡ mix_answer layers volume → after ≡ mix_layers layers volume → MixAnswered layers volume answer after
  mix_answered answer after e l = record { number = ap number_in e ∙ mix_number_lem; rounds = ap rounds_of e ∙ mix_rounds_lem; leaves = l; answers = e }
