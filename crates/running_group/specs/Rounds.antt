-- States what the functions that work a round answer, by what they keep (01, Mix): a group that starts or ends, a pair, and a round.
use Rattle.std.specs.Prelude.{ℕ, ◌+◌, ◌≤◌, ◌<◌, Bool, ◌≡◌, List, T, Float, Option, Some}
use Rattle.std.specs.Option.{IfSome}
use Rattle.std.specs.Float.{binary64}
use Rattle.std.specs.Float.Ieee.{fits}
use Rattle.std.specs.Float.Ieee.Scale.{finite}
use Rattle.numeric.specs.Double.{◌⊕◌, ◌⊛◌, one_f}
use Rattle.numeric.specs.Sum2.{nothing_added, accumulate}
use Rattle.mixing.specs.Round.{fill, one_round}
use Rattle.mixing.specs.Rearrange.{is_sorted}
use Rattle.layer_joining.specs.declared.RunningGroup.{RunningGroup}
use Rattle.layer_joining.specs.Running.{Follows}

-- a group of the one layer i, of temperature `temp` and volume v, above `below`
pub record Started (i : ℕ) (temp v : Float) (below : Option Float) (sorted : Bool) (met : Float) (q : RunningGroup) : Type 0 where
  pub bottom_is : q.bottom ≡ i
  pub temp_is : q.temp ≡ temp
  pub each_is : q.each ≡ Some v
  pub below_is : q.below ≡ below
  pub sorted_is : q.sorted ≡ sorted
  pub met_is : q.met ≡ met ⊕ (v ⊛ temp)
  pub temp_fits : T (fits binary64 temp)
  pub volume_fits : T (fits binary64 v)
  pub heat_is : T (finite (v ⊛ temp)) → q.heat ≡ accumulate nothing_added (v ⊛ temp)
  pub volume_is : T (finite (v ⊛ temp)) → q.volume ≡ accumulate nothing_added (v ⊛ one_f)

-- what an array holds when a group from bottom to below end has ended in it: one layer alone has its temperature already
pub record Ended (bottom end : ℕ) (x : Float) (old new : List Float) : Type 0 where
  pub one_layer : bottom + 1 ≡ end → new ≡ old
  pub more_layers : bottom + 1 < end → new ≡ fill bottom end x old

-- after the pair of the layers i and i + 1, which found `old` and left `new`, q follows the round as r did before it
pub record PairFollows (vol : List Float) (i : ℕ) (old new : List Float) (r q : RunningGroup) : Type 0 where
  pub group_below : q.bottom ≤ i + 1
  pub follows : (n : ℕ) (first : List Float) → i + 1 < n → Follows n vol first i old r → Follows n vol first (i + 1) new q

-- a round that found `old` left `new`, as the definition says, and `sorted` tells whether that is in order
pub record RoundWorked (n : ℕ) (vol old new : List Float) (sorted : Bool) : Type 0 where
  pub leaves : new ≡ one_round n vol old
  pub tells : sorted ≡ is_sorted n new

-- the same of a round that answers: it met finite products alone
abbrev pub RoundLeaves : ℕ → List Float → List Float → List Float → Option Bool → Type 0
RoundLeaves n vol old new r = IfSome r (λ sorted. RoundWorked n vol old new sorted)
