-- Proves that what a layer loses and where it ends is told by what stands at that layer (01, Losses and limit), wherever it is read: so the losses can be worked in place.
use mathlib.Core.Path.{◌≡◌}
use mathlib.Core.List.{List}
use Prim.Native.Nat.{ℕ}
use lib.ListN.{get_or}
use lib.Ieee.{Float, nan}
use Rattle.numeric.specs.Double.{◌⊕◌}
use Rattle.cylinder.specs.declared.Cylinder.{Cylinder}
use Rattle.cylinder.specs.Layers.{heat_capacity}
use Rattle.set_points.specs.declared.SetPoints.{SetPoints}
use Rattle.layer_losses.specs.Loss.{clearly_above, loss, limited_temp}
use Rattle.thermal_losses.specs.Losses.{warmed, loss_at}

-- t and q are what the layer k and its charge hold
module _ (c : Cylinder) (vol : List Float) (p : SetPoints) (before mixed charged : List Float) (k : ℕ) (t q : Float) (e : t ≡ get_or mixed k nan) (g : q ≡ get_or charged k nan) where
  pub loss_local : loss c (get_or vol k nan) p (clearly_above t (get_or before k nan)) t q ≡ loss_at c vol p before mixed charged k
  unfolding warmed loss_at
  loss_local = rw (e, g)

  pub limited_local : (lost : Float) → lost ≡ loss_at c vol p before mixed charged k
      → limited_temp p (clearly_above t (get_or before k nan)) t lost (heat_capacity c vol k) ≡ limited_temp p (warmed c vol p before mixed charged k) (get_or mixed k nan) (loss_at c vol p before mixed charged k) (heat_capacity c vol k)
  unfolding warmed
  limited_local lost l = rw (l, e)

  pub charged_local : (lost : Float) → lost ≡ loss_at c vol p before mixed charged k → q ⊕ lost ≡ get_or charged k nan ⊕ loss_at c vol p before mixed charged k
  charged_local lost l = rw (g, l)
