-- States `calc_temps_after_thermal_losses` (01, Losses and limit): what all layers lose, and where they end.
-- `before` are the layers before the heat, `mixed` those that the mixing left, `charged` what earlier heaters charged each this step.
use Rattle.std.specs.Prelude.{ℕ, ◌-◌, ◌≡◌, Bool, cond, List, get_or, Float}
use Rattle.std.specs.Float.{nan}
use Rattle.std.specs.Float.Ieee.{lt}
use Rattle.numeric.specs.Double.{◌⊕◌, ◌⊖◌, zero_f}
use Rattle.numeric.specs.Compare.{min_of2, max_of2}
use Rattle.numeric.specs.Iterate.{iterate}
use Rattle.numeric.specs.Tabulate.{tabulate}
use Rattle.numeric.specs.Places.{update_first}
use Rattle.numeric.specs.Sum2.{sum2}
use Rattle.cylinder.specs.declared.Cylinder.{Cylinder}
use Rattle.cylinder.specs.Layers.{heat_capacity}
use Rattle.set_points.specs.declared.SetPoints.{SetPoints}
use Rattle.layer_losses.specs.declared.Layer.{Layer}
use Rattle.layer_losses.specs.Loss.{clearly_above, over_upper, loss, limited_temp, surplus_term}
use Rattle.thermal_losses.specs.declared.LossesAnswer.{LossesAnswer}

-- the layer k, as the code takes it
abbrev pub layer_of : List Float → List Float → List Float → List Float → ℕ → Layer
layer_of vol before mixed charged k = record {
  volume = get_or vol k nan;
  before = get_or before k nan;
  mixed = get_or mixed k nan;
  charged = get_or charged k nan;
}

module _ (c : Cylinder) (vol : List Float) (p : SetPoints) (before mixed charged : List Float) where
  -- the layer k is warmed if it is above its temperature before heating and not wide-close to it
  unfoldable pub warmed : ℕ → Bool
  warmed k = clearly_above (get_or mixed k nan) (get_or before k nan)

  unfoldable pub loss_at : ℕ → Float
  loss_at k = loss c (get_or vol k nan) p (warmed k) (get_or mixed k nan) (get_or charged k nan)

  -- the heater's losses, over all layers
  unfoldable pub losses : Float
  losses = sum2 (tabulate loss_at c.layers 0)

  unfoldable pub temps_after : List Float
  temps_after = update_first (λ (k : ℕ) (t : Float). limited_temp p (warmed k) t (loss_at k) (heat_capacity c vol k)) c.layers mixed

  unfoldable pub charged_after : List Float
  charged_after = update_first (λ (k : ℕ) (x : Float). x ⊕ loss_at k) c.layers charged

  abbrev pub surplus_at : ℕ → Float
  surplus_at k = surplus_term p (get_or mixed k nan) (loss_at k) (heat_capacity c vol k)

  -- added plainly from the heater's layer up
  abbrev pub surplus_from : ℕ → Float
  surplus_from layer = iterate (λ (k : ℕ) (s : Float). s ⊕ surplus_at k) (c.layers - layer) layer zero_f

  -- if that layer, warmed or not, is over the upper set point; else 0
  unfoldable pub surplus : ℕ → Float
  surplus layer = cond (over_upper p (get_or mixed layer nan)) (surplus_from layer) zero_f

  -- the layers have lost their heat: r are the heater's losses, `after` and `charges` what the layers are left at and charged with
  pub record HeatLost (r : Float) (after charges : List Float) : Type 0 where
    pub loses : r ≡ losses
    pub leaves : after ≡ temps_after
    pub charged_with : charges ≡ charged_after

-- adjusted: `max_of_2` of 0 and `min_of_2` of input - surplus and input, or 0 if input is not above zero
unfoldable pub adjusted : Float → Float → Float
adjusted input over = cond (lt zero_f input) (max_of2 zero_f (min_of2 (input ⊖ over) input)) zero_f

-- losses and limit are worked for a heater of this layer and this input: its adjusted input, its losses, and what the lent arrays are left at
pub record LossesWorked (c : Cylinder) (vol : List Float) (p : SetPoints) (before mixed charged : List Float) (layer : ℕ) (input : Float)
    (r : LossesAnswer) (after charges : List Float) : Type 0 where
  pub adjusts : r.adjusted ≡ adjusted input (surplus c vol p before mixed charged layer)
  pub lost : HeatLost c vol p before mixed charged r.losses after charges
