-- Proves what the layers are once the running group's temperature is written in them (01, Mix): those of the walk by definition.
use mathlib.Core.Path.{◌≡◌, refl, ◌∙◌}
use mathlib.Core.Logic.{⊎_elim, inr}
use mathlib.Core.List.{List}
use Prim.Native.Nat.{ℕ, ◌+◌, ◌≤◌, ◌<◌}
use native.Mathlib.Nat.{zero-add, eq-or-lt_of_le}
use native.Mathlib.Omega.{arith}
use lib.Dec.{T}
use lib.ListN.{length, get_or}
use lib.Ieee.{Float, nan}
use lib.Ieee.Scale.{finite}
use Rattle.numeric.specs.Double.{◌⊛◌}
use Rattle.numeric.specs.Iterate.{iterate, iterate_more}
use Rattle.numeric.proofs.Finite.{product_parts_finite}
use Rattle.mixing.specs.Round.{fill, pair}
use Rattle.layer_joining.specs.Running.{HeatFinite, AsDefined}
use Rattle.layer_joining.specs.declared.RunningGroup.{RunningGroup}
use Rattle.layer_joining.proofs.Fill.{fill_inside, fill_outside, inside_or_not}
use Rattle.layer_joining.proofs.Members.{layer_there}

-- one layer more has been passed
pub passed_more : (i : ℕ) (vol first : List Float) → HeatFinite (i + 1) vol first → T (finite (get_or vol (i + 1) nan ⊛ get_or first (i + 1) nan)) → HeatFinite (i + 2) vol first
passed_more i vol first h f k l =
    let m : k ≤ i + 1 = omega arith in
    ⊎_elim (λ e. rw e f) (λ u. h k u) (eq-or-lt_of_le m)

-- the layers with the group's temperature written
abbrev pub written : ℕ → List Float → RunningGroup → List Float
written i temps r = fill r.bottom (i + 1) r.temp temps

module _ (n : ℕ) (vol first : List Float) (i : ℕ) (temps : List Float) (r : RunningGroup) (low : r.bottom ≤ i) (h : i < n) (d : AsDefined n vol first i temps r) where
  there : (k : ℕ) → k < n → k < length temps
  there k l = layer_there n vol temps d.layers_finite k l

  pub written_lower : get_or (written i temps r) i nan ≡ r.temp
  written_lower = fill_inside r.bottom (i + 1) r.temp temps i low (omega arith) (there i h)

  pub written_upper : get_or (written i temps r) (i + 1) nan ≡ get_or temps (i + 1) nan
  written_upper = fill_outside r.bottom (i + 1) r.temp temps (i + 1) (omega arith) (inr (omega arith))

  pub written_finite : HeatFinite n vol (written i temps r)
  written_finite k l =
      ⊎_elim (λ p. rw (fill_inside r.bottom (i + 1) r.temp temps k p.0 p.1 (there k l)) (d.group_finite k p.0 p.1))
      (λ p. rw (fill_outside r.bottom (i + 1) r.temp temps k (omega arith) p) (d.layers_finite k l)) (inside_or_not r.bottom (i + 1) k)

  -- the pair's two temperatures are finite
  pub lower_finite : T (finite r.temp)
  lower_finite = (product_parts_finite (get_or vol i nan) r.temp (d.group_finite i low (omega arith))).1

  pub upper_finite : i + 1 < n → T (finite (get_or temps (i + 1) nan))
  upper_finite b = (product_parts_finite (get_or vol (i + 1) nan) (get_or temps (i + 1) nan) (d.layers_finite (i + 1) b)).1

  -- the walk's next pair is worked on them
  pub walk_more : iterate (pair n vol) (i + 1) 0 (record { temps = first; bottom = 0 }) ≡ pair n vol i (record { temps = written i temps r; bottom = r.bottom })
  walk_more = iterate_more (pair n vol) i 0 (record { temps = first; bottom = 0 }) ∙ rw (zero-add, d.walk) refl
