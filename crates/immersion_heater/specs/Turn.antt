-- States one turn of a heater (01, Turn): from its switch-on to its switch-off in one step, with that step's set points. It is a shell over
-- `calc_final_temps` (Heat to Losses and limit).
use Rattle.std.specs.Prelude.{ℕ, ◌≡◌, Bool, cond, ◌&&◌, List, get_or, Float, Result, Ok, Err}
use Rattle.std.specs.Float.{nan}
use Rattle.std.specs.Float.Ieee.Scale.{finite}
use Rattle.refusals.specs.declared.Refusal.{Refusal}
use Rattle.refusals.specs.declared.Refusal.TheVariants.{OutOfOrder, NotFinite}
use Rattle.refusals.specs.Refusals.{number_in}
use Rattle.numeric.specs.Double.{◌⊛◌}
use Rattle.mixing.specs.Rearrange.{Mixing, sorted, unsorted}
use Rattle.mixing.specs.Mix.{mixing_rounds}
use Rattle.cylinder.specs.declared.Cylinder.{Cylinder}
use Rattle.cylinder.specs.Layers.{all_finite}
use Rattle.set_points.specs.declared.SetPoints.{SetPoints}
use Rattle.heating.specs.Heat.{offers_to}
use Rattle.heating.specs.FinalTemps.{FinalTemps, calc_final_temps}
use Rattle.immersion_heater.specs.declared.turn.Immersion.{Immersion}
use Rattle.immersion_heater.specs.declared.turn.TurnAnswer.{TurnAnswer}
use Rattle.heater_switches.specs.Switch.{switch_on, switch_off}
use Rattle.immersion_heater.specs.Offer.{offer}
use Rattle.immersion_heater.specs.Supply.{supply}

-- what a turn came to: whether the heater ran on, its mixing, and what follows a mixing that is not refused: the layers and the charged losses it leaves,
-- its flag, and its figures
pub record Turned : Type 0 where
  pub ran : Bool
  pub mixing : Mixing
  pub temps : List Float
  pub charged : List Float
  pub flag : Bool
  pub adjusted : Float
  pub supplied : Float
  pub losses : Float
  pub rounds : ℕ

-- rated power × step length: what a heater that is on offers, and the most that it supplies
abbrev pub max_energy : Cylinder → Immersion → Float
max_energy c h = h.rated ⊛ c.timestep

-- a after a mixing that handed on layers, b after one that is refused
abbrev pub if_mixed : {A : Type 0} → Mixing → A → A → A
if_mixed (sorted temps k) a b = a
if_mixed unsorted a b = b

-- supply and switch-off, from what `calc_final_temps` came to; a refused mixing ends the turn before them
unfoldable pub after_heat : Cylinder → Immersion → SetPoints → Bool → FinalTemps → Turned
after_heat c h p on f = record {
  ran = on;
  mixing = f.mixing;
  temps = f.temps;
  charged = f.charged;
  flag = if_mixed f.mixing (switch_off p (get_or f.temps h.thermostat nan) on) on;
  adjusted = f.adjusted;
  supplied = if_mixed f.mixing (supply f.adjusted (max_energy c h)) nan;
  losses = f.losses;
  rounds = mixing_rounds f.mixing;
}

module _ (c : Cylinder) (vol : List Float) (h : Immersion) (p : SetPoints) (temps charged : List Float) where
  -- what each layer is offered
  abbrev pub offers : Bool → ℕ → Float
  offers on = offers_to h.layer (offer on (max_energy c h))

  -- the switch-on looks at the layers on which the turn begins, with the flag that the last step left; on or off, the layers are then heated and mixed
  unfoldable pub turn : Bool → Turned
  turn flag =
      let on = switch_on p (get_or temps h.thermostat nan) flag in
      after_heat c h p on (calc_final_temps c vol p h.layer (offers on) temps charged)

-- a layer or its figures after a heater's turn
unfoldable pub turn_finite : Cylinder → Turned → Bool
turn_finite c u = all_finite c.layers u.temps && finite u.adjusted && finite u.supplied && finite u.losses

-- the number with which a turn ends its step, or 0: 9 for a mixing out of order, 10 for what is not finite
abbrev pub number_after : Mixing → Bool → ℕ
number_after unsorted finite = 9
number_after (sorted temps k) finite = cond finite 0 10

unfoldable pub turn_number : Cylinder → Turned → ℕ
turn_number c u = number_after u.mixing (turn_finite c u)

-- what a turn of this number answers with: 10 is for what is not finite
abbrev pub outcome_if : Bool → Result Unit Refusal
outcome_if finite = cond finite (Ok tt) (Err NotFinite)

abbrev pub outcome_after : Mixing → Bool → Result Unit Refusal
outcome_after unsorted finite = Err OutOfOrder
outcome_after (sorted temps k) finite = outcome_if finite

-- what the code answers for the turn u
abbrev pub turn_answer : Cylinder → Turned → TurnAnswer
turn_answer c u = record {
  outcome = outcome_after u.mixing (turn_finite c u);
  ran = u.ran;
  flag = u.flag;
  adjusted = u.adjusted;
  supplied = u.supplied;
  losses = u.losses;
  rounds = u.rounds;
}

-- r is the answer for the turn u, with its number, and left these layers and these charged losses
pub record TurnAnswered (c : Cylinder) (u : Turned) (r : TurnAnswer) (temps charged : List Float) : Type 0 where
  pub number : number_in r.outcome ≡ turn_number c u
  pub answers : r ≡ turn_answer c u
  pub leaves : temps ≡ u.temps
  pub charges : charged ≡ u.charged
