-- `mix::mix_array` meets its contract (01, The four calls): in the array the layers are followed by zeros, which bear on nothing.
use mathlib.Core.Path.{◌≡◌, sym, ◌∙◌}
use mathlib.Core.List.{List, ◌++◌}
use Prim.Native.Nat.{ℕ, ◌≤◌}
use lib.Ieee.{Float}
use lib.ListN.{length, take, drop, replicate}
use Rattle.std.specs.Prelude.{Result, Ok, Err}
use Rattle.std.proofs.lemmas.Result.{err_from_is_err_and}
use Rattle.refusals.specs.declared.Refusal.{Refusal}
use Rattle.numeric.specs.Double.{zero_f}
use Rattle.mixing.specs.Limits.{max_layers}
use Rattle.mixing.specs.Rearrange.{rearrange}
use Rattle.mixing.specs.Mix.{answer_of, Rearranged, MixWorked}
use Rattle.rearrange.proofs.Array.{array_answer, array_accepted, array_refused}
use Rattle.rearrange.proofs.mix.mix_array.Goals as goal

-- what is in the array behind the layers
abbrev zeros : List Float → List Float
zeros layers = drop (length layers) (replicate max_layers zero_f)

abbrev volumes : Float → List Float
volumes v = replicate max_layers v

-- what the mixing of the array answers and leaves is that of the layers, with the zeros behind them
module _ (layers : List Float) (v : Float) (size : 1 ≤ length layers) (answer : Result ℕ Refusal) (after : List Float)
    (mixed : Rearranged (length layers) (volumes v) (layers ++ zeros layers) answer after) where
  answered : answer ≡ answer_of (rearrange (length layers) (volumes v) layers)
  answered = mixed.answers ∙ array_answer (volumes v) layers (zeros layers) size

  accepted : (k : ℕ) → answer ≡ Ok k → MixWorked layers v (Ok k) (take (length layers) after)
  accepted k e =
      record { answers = sym e ∙ answered; leaves = rw mixed.leaves (array_accepted (volumes v) layers (zeros layers) size k (sym answered ∙ e)) }

  refused : (r : Refusal) → answer ≡ Err r → MixWorked layers v (Err r) layers
  refused r e =
      record { answers = sym e ∙ answered; leaves = array_refused (volumes v) layers (zeros layers) size r (sym answered ∙ e) }

pub returns : goal.returns
returns c =
    let mixed = rw c.copy_from_slice.ensures.after at c.rearrange_temperatures.ensures in
    rw c.copy_from_slice-2.ensures.after (accepted c.args.layers.now c.args.layer_volume c.requires.0 _ _ mixed _ c.in_ok-rounds.was)

pub returns-in_err-rounds : goal.returns-in_err-rounds
returns-in_err-rounds c =
    let mixed = rw c.copy_from_slice.ensures.after at c.rearrange_temperatures.ensures in
    let p = err_from_is_err_and c.from_residual.result c.from_residual.ensures.1 in
    rw (p.1, p.2) (refused c.args.layers.now c.args.layer_volume c.requires.0 _ _ mixed _ c.in_err-rounds.was)
