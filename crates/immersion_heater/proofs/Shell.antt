-- Proves what a turn comes to by what `calc_final_temps` answered (01, Turn; refusal 9).
use mathlib.Core.Path.{◌≡◌, refl, sym, ◌∙◌}
use mathlib.Core.Bool.{Bool, true, false, ◌&&◌}
use mathlib.Core.List.{List}
use native.Mathlib.Omega.{arith}
use Prim.Native.Nat.{ℕ}
use lib.ListN.{get_or}
use lib.Ieee.{Float, nan}
use lib.Ieee.Scale.{finite}
use Rattle.std.specs.Prelude.{Result, Ok, Err}
use Rattle.refusals.specs.declared.Refusal.{Refusal}
use Rattle.refusals.specs.declared.Refusal.TheVariants.{OutOfOrder}
use Rattle.refusals.specs.Refusals.{number_in}
use Rattle.mixing.specs.Rearrange.{Mixing, sorted, unsorted}
use Rattle.cylinder.specs.declared.Cylinder.{Cylinder}
use Rattle.cylinder.specs.Layers.{all_finite}
use Rattle.set_points.specs.declared.SetPoints.{SetPoints}
use Rattle.heating.specs.declared.final_temps.HeatFigures.{HeatFigures}
use Rattle.heating.specs.Heat.{offers_to}
use Rattle.thermal_losses.specs.Losses as Losses
use Rattle.heating.specs.FinalTemps.{FinalTemps, heat_and_mix, adjusted_input, after_mixing, calc_final_temps, final_temps_answer, Calculated}
use Rattle.immersion_heater.specs.declared.turn.Immersion.{Immersion}
use Rattle.immersion_heater.specs.declared.turn.TurnAnswer.{TurnAnswer}
use Rattle.heater_switches.specs.Switch.{switch_on, switch_off}
use Rattle.immersion_heater.specs.Offer.{offer}
use Rattle.immersion_heater.specs.Supply.{supply}
use Rattle.immersion_heater.specs.Turn.{Turned, max_energy, after_heat, turn, turn_finite, number_after, turn_number, outcome_if, outcome_after, turn_answer}
use Rattle.immersion_heater.specs.Turn.{TurnAnswered}

-- the number of an outcome is that of 01
outcome_number : (x : Mixing) (finite : Bool) → number_in (outcome_after x finite) ≡ number_after x finite
outcome_number (sorted temps k) true = refl
outcome_number (sorted temps k) false = refl
outcome_number unsorted finite = refl

answered : (c : Cylinder) (u : Turned) (r : TurnAnswer) (temps charged : List Float) → r ≡ turn_answer c u → temps ≡ u.temps → charged ≡ u.charged
    → TurnAnswered c u r temps charged
unfolding turn_number
answered c u r temps charged a l g =
    record { number = rw a (outcome_number u.mixing (turn_finite c u)); answers = a; leaves = l; charges = g }

module _ (c : Cylinder) (vol : List Float) (h : Immersion) (p : SetPoints) (offers : ℕ → Float) (before earlier : List Float) (on : Bool) where
  abbrev calculated : FinalTemps
  calculated = calc_final_temps c vol p h.layer offers before earlier

  abbrev turned : Mixing → Turned
  turned x = after_heat c h p on (after_mixing c vol p h.layer offers before earlier x)

  -- what the code answers where `calc_final_temps` is refused
  abbrev pub refused_answer : Refusal → TurnAnswer
  refused_answer refusal = record { outcome = Err refusal; ran = on; flag = on; adjusted = nan; supplied = nan; losses = nan; rounds = 0 }

  refused_case : (x : Mixing) (refusal : Refusal) → final_temps_answer (after_mixing c vol p h.layer offers before earlier x) ≡ Err refusal
      → refused_answer refusal ≡ turn_answer c (turned x)
  unfolding after_heat after_mixing
  refused_case (sorted mixed k) refusal e = grind arith
  refused_case unsorted refusal e = let same : OutOfOrder ≡ refusal = cc in rw (← same)

  -- and where it is not, with the layers that it left
  abbrev pub passed_answer : HeatFigures → List Float → TurnAnswer
  passed_answer r temps =
      let supplied = supply r.figures.adjusted (max_energy c h) in
      record {
        outcome = outcome_if (all_finite c.layers temps && finite r.figures.adjusted && finite supplied && finite r.figures.losses);
        ran = on;
        flag = switch_off p (get_or temps h.thermostat nan) on;
        adjusted = r.figures.adjusted;
        supplied = supplied;
        losses = r.figures.losses;
        rounds = r.rounds;
      }

  passed_case : (x : Mixing) (r : HeatFigures) → final_temps_answer (after_mixing c vol p h.layer offers before earlier x) ≡ Ok r
      → passed_answer r (after_mixing c vol p h.layer offers before earlier x).temps ≡ turn_answer c (turned x)
  unfolding after_heat turn_finite after_mixing
  passed_case (sorted mixed k) r e =
      let same : record {
        rounds = k;
        figures = record {
          adjusted = adjusted_input c vol p h.layer offers before earlier mixed;
          losses = Losses.losses c vol p before mixed earlier;
        };
      } ≡ r = cc in
      rw (← same)
  passed_case unsorted r e = grind arith

  module _ (answer : Result HeatFigures Refusal) (temps charged : List Float) (w : Calculated calculated answer temps charged) where
    pub refused_worked : (refusal : Refusal) → answer ≡ Err refusal → TurnAnswered c (after_heat c h p on calculated) (refused_answer refusal) temps charged
    unfolding after_heat calc_final_temps
    refused_worked refusal e =
        answered c (after_heat c h p on calculated) (refused_answer refusal) temps charged
        (refused_case (heat_and_mix c vol p h.layer offers before earlier) refusal (sym w.answers ∙ e)) w.leaves w.charges

    pub passed_worked : (r : HeatFigures) → answer ≡ Ok r → TurnAnswered c (after_heat c h p on calculated) (passed_answer r temps) temps charged
    unfolding after_heat calc_final_temps
    passed_worked r e =
        answered c (after_heat c h p on calculated) (passed_answer r temps) temps charged
        (rw w.leaves (passed_case (heat_and_mix c vol p h.layer offers before earlier) r (sym w.answers ∙ e))) w.leaves w.charges

-- a turn by its switch-on and its offer
pub turn_is : (c : Cylinder) (vol : List Float) (h : Immersion) (p : SetPoints) (temps charged : List Float) (flag on : Bool) (q : Float)
    → on ≡ switch_on p (get_or temps h.thermostat nan) flag → q ≡ offer on (max_energy c h)
    → turn c vol h p temps charged flag ≡ after_heat c h p on (calc_final_temps c vol p h.layer (offers_to h.layer q) temps charged)
unfolding turn
turn_is c vol h p temps charged flag on q e o = rw (← e, o)
