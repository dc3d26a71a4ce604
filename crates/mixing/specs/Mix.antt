-- States the call mix (01, The four calls; refusals 1, 3 and 9): its number, its rounds and what it leaves in the lent layers, and the answer that tells the
-- first two: the rounds, or the refusal.
use Rattle.std.specs.Prelude.{ℕ, cond, ◌&&◌, ◌||◌, List, ◌≡◌, length, replicate, eqb, ltb, Float, Result, Ok, Err}
use Rattle.std.specs.Float.Ieee.{lt}
use Rattle.std.specs.Float.Ieee.Scale.{finite}
use Rattle.refusals.specs.declared.Refusal.{Refusal}
use Rattle.refusals.specs.declared.Refusal.TheVariants.{OutOfOrder}
use Rattle.refusals.specs.Refusals.{number_in, refusal_with}
use Rattle.numeric.specs.Double.{zero_f}
use Rattle.mixing.specs.Limits.{max_layers}
use Rattle.mixing.specs.Rearrange.{Mixing, sorted, unsorted, rearrange}

-- ---- number, rounds and layers

-- 1: the layers are none or more than 32; 3: the layer volume is not finite and above zero
unfoldable pub mix_refusal : List Float → Float → ℕ
mix_refusal layers volume =
    cond (eqb (length layers) 0 || ltb max_layers (length layers)) 1
    (cond (finite volume && lt zero_f volume) 0 3)

-- the mixing that a call works where 1 and 3 let it pass: all layers have the one volume
abbrev pub mixing : List Float → Float → Mixing
mixing layers volume = rearrange (length layers) (replicate max_layers volume) layers

-- 9: it is not in order after all its rounds
abbrev pub mixing_number : Mixing → ℕ
mixing_number (sorted after k) = 0
mixing_number unsorted = 9

abbrev pub mixing_rounds : Mixing → ℕ
mixing_rounds (sorted after k) = k
mixing_rounds unsorted = 0

-- what a mixing leaves of the temperatures it was lent: a refused one leaves them as they were
abbrev pub temps_of : List Float → Mixing → List Float
temps_of temps (sorted after k) = after
temps_of temps unsorted = temps

-- 1, 3 and 9, in this order, and 0 where the mix is accepted
unfoldable pub mix_number : List Float → Float → ℕ
mix_number layers volume = cond (eqb (mix_refusal layers volume) 0) (mixing_number (mixing layers volume)) (mix_refusal layers volume)

-- an accepted mix gives its rounds
unfoldable pub mix_rounds : List Float → Float → ℕ
mix_rounds layers volume = cond (eqb (mix_refusal layers volume) 0) (mixing_rounds (mixing layers volume)) 0

-- a refused mix leaves its layers
abbrev pub mix_layers : List Float → Float → List Float
mix_layers layers volume = cond (eqb (mix_refusal layers volume) 0) (temps_of layers (mixing layers volume)) layers

-- ---- the answer

-- the rounds of an answer: those run, 0 where the mix is refused
abbrev pub rounds_of : Result ℕ Refusal → ℕ
rounds_of (Ok rounds) = rounds
rounds_of (Err refusal) = 0

-- what a mixing answers
abbrev pub answer_of : Mixing → Result ℕ Refusal
answer_of (sorted after k) = Ok k
answer_of unsorted = Err OutOfOrder

-- the answer is that of the mixing x, and `after` is what x leaves of the temperatures it was lent
pub record LeftBy (x : Mixing) (temps : List Float) (answer : Result ℕ Refusal) (after : List Float) : Type 0 where
  pub answers : answer ≡ answer_of x
  pub leaves : after ≡ temps_of temps x

-- n layers of these volumes were mixed in place
abbrev pub Rearranged : ℕ → List Float → List Float → Result ℕ Refusal → List Float → Type 0
Rearranged n vol temps answer after = LeftBy (rearrange n vol temps) temps answer after

-- the same of a call's layers, which all have the one volume
abbrev pub MixWorked : List Float → Float → Result ℕ Refusal → List Float → Type 0
MixWorked layers volume answer after = LeftBy (mixing layers volume) layers answer after

abbrev pub mix_answer : List Float → Float → Result ℕ Refusal
mix_answer layers volume = cond (eqb (mix_refusal layers volume) 0) (answer_of (mixing layers volume)) (Err (refusal_with (mix_refusal layers volume)))

-- a mix of these layers, each of this volume, gives this answer and leaves these layers
pub record MixAnswered (layers : List Float) (volume : Float) (answer : Result ℕ Refusal) (after : List Float) : Type 0 where
  pub number : number_in answer ≡ mix_number layers volume
  pub rounds : rounds_of answer ≡ mix_rounds layers volume
  pub leaves : after ≡ mix_layers layers volume
  pub answers : answer ≡ mix_answer layers volume
