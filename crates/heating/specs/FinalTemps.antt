-- States `calc_final_temps` (01, Heat; Mix; Losses and limit; refusal 9): what the layers come to that are offered heat, whatever each is offered.
use Rattle.std.specs.Prelude.{ℕ, ◌≡◌, List, Float, Result, Ok, Err}
use Rattle.std.specs.Float.{nan}
use Rattle.refusals.specs.declared.Refusal.{Refusal}
use Rattle.refusals.specs.declared.Refusal.TheVariants.{OutOfOrder}
use Rattle.mixing.specs.Rearrange.{Mixing, sorted, unsorted, rearrange}
use Rattle.cylinder.specs.declared.Cylinder.{Cylinder}
use Rattle.set_points.specs.declared.SetPoints.{SetPoints}
use Rattle.heating.specs.declared.final_temps.HeatFigures.{HeatFigures}
use Rattle.heating.specs.Heat.{input_of, heated}
use Rattle.thermal_losses.specs.Losses as Losses
use Rattle.thermal_losses.specs.Losses.{adjusted}

-- what the heat came to: the mixing, and what follows one that is not refused: the layers, what they are charged with, the adjusted input, and the losses
pub record FinalTemps : Type 0 where
  pub mixing : Mixing
  pub temps : List Float
  pub charged : List Float
  pub adjusted : Float
  pub losses : Float

-- `layer` is the heater's, `offers` what each layer is offered, `temps` the layers before, `charged` what earlier heaters charged each this step
module _ (c : Cylinder) (vol : List Float) (p : SetPoints) (layer : ℕ) (offers : ℕ → Float) (temps charged : List Float) where
  -- each layer gains its offer; the layers are then mixed
  unfoldable pub heat_and_mix : Mixing
  heat_and_mix = rearrange c.layers vol (heated c vol offers temps)

  -- the adjusted input, where the mixing left `mixed`
  unfoldable pub adjusted_input : List Float → Float
  adjusted_input mixed = adjusted (input_of c.layers offers) (Losses.surplus c vol p temps mixed charged layer)

  -- losses and limit follow the mixing; one that is refused leaves what stood, and no figures
  unfoldable pub after_mixing : Mixing → FinalTemps
  after_mixing (sorted mixed k) = record {
    mixing = sorted mixed k;
    temps = Losses.temps_after c vol p temps mixed charged;
    charged = Losses.charged_after c vol p temps mixed charged;
    adjusted = adjusted_input mixed;
    losses = Losses.losses c vol p temps mixed charged;
  }
  after_mixing unsorted = record {
    mixing = unsorted;
    temps = temps;
    charged = charged;
    adjusted = nan;
    losses = nan;
  }

  unfoldable pub calc_final_temps : FinalTemps
  calc_final_temps = after_mixing heat_and_mix

-- what the code answers: refusal 9 for a mixing out of order, else its rounds and the figures
abbrev pub heat_answer : Mixing → Float → Float → Result HeatFigures Refusal
heat_answer (sorted mixed k) adjusted losses = Ok (record { rounds = k; figures = record { adjusted = adjusted; losses = losses } })
heat_answer unsorted adjusted losses = Err OutOfOrder

abbrev pub final_temps_answer : FinalTemps → Result HeatFigures Refusal
final_temps_answer f = heat_answer f.mixing f.adjusted f.losses

-- r is the answer for f, which left these layers and these charged losses
pub record Calculated (f : FinalTemps) (r : Result HeatFigures Refusal) (temps charged : List Float) : Type 0 where
  pub answers : r ≡ final_temps_answer f
  pub leaves : temps ≡ f.temps
  pub charges : charged ≡ f.charged
