-- States what the code keeps while a round runs (01, Mix), what that says of the round as Round defines it, and a layer that joins. No definition of a call
-- cites this: it stands in the contracts of the functions that work a round, and a round that they work is proved to be `one_round`.
use Rattle.std.specs.Prelude.{ℕ, zero, suc, ◌+◌, ◌-◌, ◌≤◌, ◌<◌, ◌≡◌, Bool, true, T, List, get_or, Float}
use Rattle.std.specs.Prelude.{Option, Some, None, IfSome}
use Rattle.std.specs.Float.{nan, binary64}
use Rattle.std.specs.Float.Ieee.{fits, le, eq}
use Rattle.std.specs.Float.Ieee.Scale.{finite}
use Rattle.numeric.specs.Double.{◌⊕◌, ◌⊛◌, one_f}
use Rattle.numeric.specs.Zeros.{SameValue}
use Rattle.numeric.specs.Iterate.{iterate}
use Rattle.numeric.specs.Holds.{holds}
use Rattle.numeric.specs.Sum2.{accumulate, total}
use Rattle.numeric.specs.declared.sum2.Accumulator.{Accumulator}
use Rattle.mixing.specs.Limits.{max_layers}
use Rattle.mixing.specs.Round.{joins, fill, pair}
use Rattle.mixing.specs.Rearrange.{rises}
use Rattle.group_sums.specs.Sums.{volume_sum, heat_sum}
use Rattle.layer_joining.specs.declared.RunningGroup.{RunningGroup}
use Rattle.layer_joining.specs.declared.NextLayer.{NextLayer}

-- x is the volume of each layer of a group, and v equals it
pub record StaysEach (each : Option Float) (v x : Float) : Type 0 where
  pub is_each : each ≡ Some x
  pub even : eq v x ≡ true

-- r is the volume of each layer of the group, with one of volume v more: there is none where that differs
abbrev pub EachWith : Option Float → Float → Option Float → Type 0
EachWith each v r = IfSome r (λ x. StaysEach each v x)

-- each layer from bottom to below end has the volume x
pub record EachHas (vol : List Float) (bottom end : ℕ) (x : Float) : Type 0 where
  pub volume_fits : T (fits binary64 x)
  pub has : (k : ℕ) → bottom ≤ k → k < end → SameValue (get_or vol k nan) x

-- volume × temperature is finite in each of n layers
abbrev pub HeatFinite : ℕ → List Float → List Float → Type 0
HeatFinite n vol temps = (k : ℕ) → k < n → T (finite (get_or vol k nan ⊛ get_or temps k nan))

-- b says whether a pair joins, where both its temperatures are finite
abbrev pub SaysJoins : Float → Float → Bool → Type 0
SaysJoins lower upper b = T (finite lower) → T (finite upper) → joins lower upper ≡ b

-- what stands below the layer `bottom`: nothing below the lowest
abbrev pub layer_below : List Float → ℕ → Option Float
layer_below temps zero = None
layer_below temps (suc k) = Some (get_or temps k nan)

-- a layer of the temperature x has none below it that is warmer
abbrev pub not_above : Option Float → Float → Bool
not_above None x = true
not_above (Some y) x = le y x

-- the group's state after a pair that joins: `heat` is the sum at the new temperature, and its s answers for the products in it
abbrev pub joined_group : RunningGroup → Float → Accumulator → Accumulator → Option Float → Float → RunningGroup
joined_group r temp heat volume each met = record {
  bottom = r.bottom;
  temp = temp;
  heat = heat;
  volume = volume;
  each = each;
  below = r.below;
  sorted = r.sorted;
  met = met ⊕ heat.s;
}

-- ---- what is kept, after i pairs of a round over n layers that began with `first`: `temps` is the lent array, r what is kept beside it
module _ (n : ℕ) (vol first : List Float) (i : ℕ) (temps : List Float) (r : RunningGroup) where
  -- where every product met is finite
  pub record AsDefined : Type 0 where
    -- the walk by definition, in which the group's layers have its temperature already
    pub walk :
        iterate (pair n vol) i 0 (record { temps = first; bottom = 0 })
        ≡ record { temps = fill r.bottom (i + 1) r.temp temps; bottom = r.bottom }
    pub temp_fits : T (fits binary64 r.temp)
    pub layers_finite : HeatFinite n vol temps
    pub group_finite : (k : ℕ) → r.bottom ≤ k → k < i + 1 → T (finite (get_or vol k nan ⊛ r.temp))
    -- the two sums over the group's layers
    pub heat : r.heat ≡ heat_sum vol r.temp r.bottom (i + 1)
    pub volume : r.volume ≡ volume_sum vol r.bottom (i + 1)
    -- where there is a volume of each, each of them has it
    pub each : IfSome r.each (λ x. EachHas vol r.bottom (i + 1) x)
    -- a group of one layer has that layer's temperature
    pub one_layer : r.bottom ≡ i → r.temp ≡ get_or temps i nan
    -- the layers below the group: the highest of them, and whether they are in order
    pub below : r.below ≡ layer_below temps r.bottom
    pub order : r.sorted ≡ holds (rises temps) (r.bottom - 1) 0

  pub record Follows : Type 0 where
    pub ahead : (j : ℕ) → i < j → get_or temps j nan ≡ get_or first j nan
    -- a finite `met` answers for the layers passed; where it is finite, and the layers ahead are fine too, what is kept is as defined
    pub passed : T (finite r.met) → HeatFinite (i + 1) vol first
    pub as_defined : T (finite r.met) → HeatFinite n vol first → AsDefined

-- ---- the layer `next` joins the group r

-- it stands above the group
pub record Enters (vol : List Float) (next : NextLayer) (r : RunningGroup) : Type 0 where
  pub group_below : r.bottom ≤ next.below
  pub has_place : next.below + 1 < max_layers
  pub own_volume : next.volume ≡ get_or vol (next.below + 1) nan

-- and `volume` is the group's with it
pub record EntersAny (vol : List Float) (next : NextLayer) (r : RunningGroup) (volume : Accumulator) : Type 0 where
  pub enters : Enters vol next r
  pub volume_is : volume ≡ accumulate r.volume (next.volume ⊛ one_f)

-- and `sum`, of the total s, is the group's heat with the layer's own, where that is finite
pub record Warms (vol : List Float) (next : NextLayer) (r : RunningGroup) (sum : Accumulator) (s : Float) (volume : Accumulator) : Type 0 where
  pub any : EntersAny vol next r volume
  pub sum_s : sum.s ≡ r.heat.s ⊕ (next.volume ⊛ next.temp)
  pub sum_is : finite sum.s ≡ true → sum ≡ accumulate r.heat (next.volume ⊛ next.temp)
  pub total_is : finite sum.s ≡ true → total sum ≡ s

-- and each layer of the group has the layer's volume
pub record EntersEven (vol : List Float) (next : NextLayer) (r : RunningGroup) (sum : Accumulator) (s : Float) (volume : Accumulator) : Type 0 where
  pub warms : Warms vol next r sum s volume
  pub each : Float
  pub each_is : StaysEach r.each next.volume each

-- q is the group with the layer: it starts where r does, and follows the round as r did, whatever the layers are, if the pair joins
pub record StillFollows (vol : List Float) (next : NextLayer) (r q : RunningGroup) : Type 0 where
  pub bottom_is : q.bottom ≡ r.bottom
  pub follows : (n : ℕ) (first temps : List Float) → next.below + 1 < n → next.temp ≡ get_or temps (next.below + 1) nan
      → SaysJoins r.temp next.temp true → Follows n vol first next.below temps r → Follows n vol first (next.below + 1) temps q
