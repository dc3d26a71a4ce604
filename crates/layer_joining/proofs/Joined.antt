-- Proves that what the code keeps of a round still follows it after a layer joins (01, Mix), in each of the ways in which the group's heat at its new
-- temperature is worked: gone on with from what was kept, where the temperature or one product says that each layer's is what it was; or summed anew.
use mathlib.Core.Path.{◌≡◌, refl, sym}
use mathlib.Core.Bool.{true}
use mathlib.Core.List.{List}
use Prim.Native.Nat.{ℕ, ◌+◌, ◌<◌}
use lib.Dec.{T}
use lib.Ieee.{Float, binary64, fits, eq}
use lib.Ieee.Fits.{div-fits}
use lib.Ieee.Scale.{finite}
use denote.Floats.{is_true, passes}
use Rattle.std.specs.Prelude.{Option, Some, None, IfSome}
use Rattle.numeric.specs.Double.{◌⊕◌, ◌⊛◌, ◌⊘◌}
use Rattle.numeric.specs.Sum2.{accumulate, total}
use Rattle.numeric.specs.declared.sum2.Accumulator.{Accumulator}
use Rattle.numeric.proofs.Finite.{sum_parts_finite}
use Rattle.group_sums.specs.Sums.{heat_sum, EvenSum, OneMore}
use Rattle.layer_joining.specs.Running.{StaysEach, EachWith, EachHas, joined_group, AsDefined, Warms, StillFollows}
use Rattle.layer_joining.specs.declared.NextLayer.{NextLayer}
use Rattle.layer_joining.specs.declared.RunningGroup.{RunningGroup}
use Rattle.layer_joining.proofs.KeptHeat.{each_more, even_heat, level_heat, equal_heat}
use Rattle.layer_joining.proofs.Joining.{met_parts, follows_join, quotient_of}

-- what the code has before the ways part: the layer `next` joins r; `sum`, of the total s, and `volume`, of the total t, are the group's with it
pub record Join : Type 0 where
  pub vol : List Float
  pub next : NextLayer
  pub r : RunningGroup
  pub sum : Accumulator
  pub volume : Accumulator
  pub s : Float
  pub t : Float
  pub warms : Warms vol next r sum s volume
  pub volume_total : t ≡ total volume
  pub volume_fits : fits binary64 next.volume ≡ true

module _ (j : Join) where
  -- the group's temperature then, and what answers for the products met
  abbrev temp : Float
  temp = j.s ⊘ j.t

  abbrev met : Float
  met = j.r.met ⊕ j.sum.s

  abbrev own : Float
  own = j.next.volume ⊛ j.next.temp

  -- what is to be shown of the heat, and of the volume of each, whatever the layers are
  abbrev IsHeat : Accumulator → Type 0
  IsHeat heat =
      (n : ℕ) (first temps : List Float) → j.next.below + 1 < n → AsDefined n j.vol first j.next.below temps j.r → T (finite met) → T (finite heat.s)
      → heat ≡ heat_sum j.vol temp j.r.bottom (j.next.below + 2)

  abbrev IsEach : Option Float → Type 0
  IsEach each =
      (n : ℕ) (first temps : List Float) → j.next.below + 1 < n → AsDefined n j.vol first j.next.below temps j.r
      → IfSome each (λ x. EachHas j.vol j.r.bottom (j.next.below + 2) x)

  sum_finite : T (finite met) → finite j.sum.s ≡ true
  sum_finite m = is_true (finite j.sum.s) (sum_parts_finite j.r.met j.sum.s m).1

  pub follows : (heat : Accumulator) (each : Option Float) → IsHeat heat → IsEach each → StillFollows j.vol j.next j.r (joined_group j.r temp heat j.volume each met)
  follows heat each h e =
      let w = j.warms in
      let enters = w.any.enters in
      record {
        bottom_is = refl;
        follows = λ n first temps b above says f.
            follows_join n j.vol first j.next.below temps j.r enters.group_below b j.next.volume j.next.temp enters.own_volume above j.volume w.any.volume_is temp heat each met
            (met_parts j.r.met j.sum.s j.r.heat.s own w.sum_s)
            (λ m. quotient_of _ _ _ _ _ (sym (w.total_is (sum_finite m))) j.volume_total (w.sum_is (sum_finite m)))
            says (h n first temps b) (e n first temps b) f;
      }

  -- ---- the ways
  module _ (heat : Accumulator) (known : OneMore j.r.heat (j.next.volume ⊛ j.r.temp) own j.sum heat) where
    from_kept : T (finite met) → OneMore j.r.heat (j.next.volume ⊛ j.r.temp) own (accumulate j.r.heat own) heat
    from_kept m = rw (j.warms.sum_is (sum_finite m)) at known

    -- the temperature is what it was
    pub kept_level : eq temp j.r.temp ≡ true → IsHeat heat
    kept_level e n first temps b d m f =
        let enters = j.warms.any.enters in
        level_heat n j.vol first j.next.below temps j.r enters.group_below b d j.next.volume enters.own_volume temp heat own (from_kept m) f (div-fits binary64 _ _) e

    -- the volumes are equal, and so is the product
    pub kept_even : (each : Float) → StaysEach j.r.each j.next.volume each → eq (j.next.volume ⊛ temp) (j.next.volume ⊛ j.r.temp) ≡ true → IsHeat heat
    kept_even each is e n first temps b d m f =
        let enters = j.warms.any.enters in
        even_heat n j.vol first j.next.below temps j.r enters.group_below b d j.next.volume enters.own_volume temp heat own (from_kept m) f (passes _ j.volume_fits) each is e

  pub anew_even : (heat : Accumulator) (each : Float) → StaysEach j.r.each j.next.volume each
      → EvenSum j.vol temp (j.next.volume ⊛ temp) j.r.bottom (j.next.below + 2) heat → IsHeat heat
  anew_even heat each is even n first temps b d m f =
      let enters = j.warms.any.enters in
      equal_heat n j.vol first j.next.below temps j.r enters.group_below b d j.next.volume enters.own_volume (passes _ j.volume_fits) each is temp heat even f

  -- ---- the volume of each
  pub each_stays : (each : Float) → StaysEach j.r.each j.next.volume each → (q : Option Float) → q ≡ Some each → IsEach q
  each_stays each is q e n first temps b d =
      let enters = j.warms.any.enters in
      rw e (each_more n j.vol first j.next.below temps j.r enters.group_below b d j.next.volume enters.own_volume (passes _ j.volume_fits) each is)

  pub each_with : (q : Option Float) → EachWith j.r.each j.next.volume q → IsEach q
  each_with None w n first temps b d = tt
  each_with (Some x) w n first temps b d = each_stays x w (Some x) refl n first temps b d
