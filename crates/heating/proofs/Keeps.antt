-- Proves that heat, losses and limit, and `calc_final_temps`, keep the number of places and what stands past the layers (01, Heat; Losses and limit).
use mathlib.Core.List.{List}
use Prim.Native.Nat.{ℕ}
use lib.Ieee.{Float}
use Rattle.numeric.specs.Double.{◌⊕◌, ◌⊘◌, zero_f}
use Rattle.numeric.specs.Places.{Keeps, keeps_self, keeps_trans, update_keeps}
use Rattle.mixing.specs.Rearrange.{Mixing, sorted, unsorted, rearrange}
use Rattle.mixing.specs.Mix.{temps_of}
use Rattle.mixing.proofs.Keeps.{rearrange_keeps}
use Rattle.cylinder.specs.declared.Cylinder.{Cylinder}
use Rattle.cylinder.specs.Layers.{heat_capacity}
use Rattle.set_points.specs.declared.SetPoints.{SetPoints}
use Rattle.heating.specs.Heat.{heated}
use Rattle.layer_losses.specs.Loss.{limited_temp}
use Rattle.thermal_losses.specs.Losses.{warmed, loss_at, temps_after}
use Rattle.heating.specs.FinalTemps.{heat_and_mix, after_mixing, calc_final_temps}

heated_keeps : (c : Cylinder) (vol : List Float) (given : ℕ → Float) (temps : List Float) → Keeps c.layers temps (heated c vol given temps)
unfolding heated
heated_keeps c vol given temps =
    update_keeps (λ (k : ℕ) (t : Float). t ⊕ (given k ⊕ zero_f) ⊘ heat_capacity c vol k) c.layers temps

module _ (c : Cylinder) (vol : List Float) (p : SetPoints) (before mixed charged : List Float) where
  temps_after_keeps : Keeps c.layers mixed (temps_after c vol p before mixed charged)
  unfolding temps_after
  temps_after_keeps =
      update_keeps
      (λ (k : ℕ) (t : Float). limited_temp p (warmed c vol p before mixed charged k) t (loss_at c vol p before mixed charged k) (heat_capacity c vol k))
      c.layers
      mixed

module _ (c : Cylinder) (vol : List Float) (p : SetPoints) (layer : ℕ) (offers : ℕ → Float) (temps charged : List Float) where
  -- what follows a mixing that kept what stands past the layers
  after_keeps : (heat : List Float) (x : Mixing) → Keeps c.layers temps (temps_of heat x)
      → Keeps c.layers temps (after_mixing c vol p layer offers temps charged x).temps
  unfolding after_mixing
  after_keeps heat (sorted mixed k) m =
      keeps_trans c.layers temps mixed (temps_after c vol p temps mixed charged) m (temps_after_keeps c vol p temps mixed charged)
  after_keeps heat unsorted m = keeps_self c.layers temps

  pub final_temps_keep : Keeps c.layers temps (calc_final_temps c vol p layer offers temps charged).temps
  unfolding calc_final_temps heat_and_mix
  final_temps_keep =
      let heat = heated c vol offers temps in
      let mixed = rearrange c.layers vol heat in
      after_keeps heat mixed
      (keeps_trans c.layers temps heat (temps_of heat mixed) (heated_keeps c vol offers temps) (rearrange_keeps c.layers vol heat))
