-- Proves that a turn is what demand 3 says of it (01, Turn): its facts by make's and the step's arguments, its supply, and what it does to flags and lines.
use mathlib.Core.Path.{◌≡◌, refl, sym, ap, ◌∙◌, subst}
use mathlib.Core.Logic.{◌⊎◌, inl, inr, ⊎_elim, ◌↔◌}
use mathlib.Core.List.{List}
use mathlib.Core.Bool.{Bool, true, false, not, cond}
use Prim.Native.Nat.{ℕ, ◌<◌}
use lib.Dec.{T}
use lib.ListN.{get_or}
use lib.Ieee.{Float, nan, lt}
use lib.Ieee.Bits.{is_true}
use Rattle.numeric.specs.Double.{◌⊖◌, zero_f}
use Rattle.numeric.specs.Compare.{min_of2, max_of2}
use Rattle.numeric.specs.Close.{wide_close, narrow_close}
use Rattle.mixing.specs.Rearrange.{Mixing, sorted, unsorted}
use Rattle.cylinder.specs.Layers.{layer_volume, layer_volumes}
use Rattle.set_points.specs.declared.SetPoints.{SetPoints}
use Rattle.set_points.specs.declared.SetPoints.TheVariants.{Neither, Lower, Upper, Both}
use Rattle.set_points.specs.SetPoints.{has_upper, upper_of}
use Rattle.heater_switches.specs.Switch.{at_or_under_lower, upper_missing_or_reached, switch_on, switch_off}
use Rattle.heating.specs.Heat.{offers_to, heated}
use Rattle.thermal_losses.specs.Losses.{surplus, adjusted}
use Rattle.heating.specs.FinalTemps.{FinalTemps, heat_and_mix, adjusted_input, after_mixing, calc_final_temps}
use Rattle.immersion_heater.specs.Offer.{offer}
use Rattle.immersion_heater.specs.Supply.{demand, supply}
use Rattle.immersion_heater.specs.declared.turn.Immersion.{Immersion}
use Rattle.immersion_heater.specs.Turn.{Turned, after_heat, turn}
use Rattle.immersion_heater.proofs.SupplyLaws.{supply_at_most, supply_off}
use Rattle.tank_model.specs.declared.TankDesign.{TankDesign}
use Rattle.tank_model.specs.declared.Step.{Step}
use Rattle.tank_model.specs.Fixed.{Placed, immersed, fixed_of}
use Rattle.tank_model.specs.Checks.{is_positive, not_negative, points_of}
use Rattle.tank_model.specs.Work.{Heating, Turn, turn_of}
use Rattle.tank_model.specs.Arguments.{cylinder_of, volumes_of, rated_of, heater_layer, thermostat_layer, max_energy, HasUpper, AtOrUnderLower, UpperMissingOrReached}
use Rattle.tank_model.specs.Course.{passed, MixingOf, input_of, FiguresOf, AfterMixing, TurnOf}
use Rattle.tank_model.specs.HistoryDemand.{RightlySupplied}
use Rattle.tank_model.proofs.Sentences.{itself, or_says, not_true}
use Rattle.tank_model.proofs.Mixings.{mixing_of_lem}
use Rattle.tank_model.proofs.Order.{heater_is}

-- ---- the thermostat layer and the switches

upper_says : (p : SetPoints) → T (has_upper p) ↔ HasUpper p
unfolding has_upper
upper_says Neither = itself
upper_says (Lower l) = itself
upper_says (Upper u) = itself
upper_says (Both l u) = itself

pub lower_says : (p : SetPoints) (t : Float) → T (at_or_under_lower p t) ↔ AtOrUnderLower p t
unfolding at_or_under_lower
lower_says Neither t = itself
lower_says (Lower l) t = or_says (lt t l) (narrow_close t l)
lower_says (Upper u) t = itself
lower_says (Both l u) t = or_says (lt t l) (narrow_close t l)

pub reached_says : (p : SetPoints) (t : Float) → T (upper_missing_or_reached p t) ↔ UpperMissingOrReached p t
unfolding upper_missing_or_reached has_upper upper_of
reached_says Neither t = itself
reached_says (Lower l) t = itself
reached_says (Upper u) t = or_says (lt u t) (narrow_close t u)
reached_says (Both l u) t = or_says (lt u t) (narrow_close t u)

on_cases : (upper low flag : Bool) {U L : Type 0} → T upper ↔ U → T low ↔ L → T (cond upper (cond low true flag) false) ↔ (U × (L ⊎ T flag))
on_cases true true flag u l = (λ t. (u.0 tt, inl (l.0 tt)), λ p. tt)
on_cases true false flag u l = (λ t. (u.0 tt, inr t), λ p. ⊎_elim (λ n. absurd (l.1 n)) (λ t. t) p.1)
on_cases false low flag u l = (λ t. absurd t, λ p. absurd (u.1 p.0))

switched_on : (p : SetPoints) (t : Float) (flag : Bool) → T (switch_on p t flag) ↔ (HasUpper p × (AtOrUnderLower p t ⊎ T flag))
unfolding switch_on
switched_on p t flag = on_cases (has_upper p) (at_or_under_lower p t) flag (upper_says p) (lower_says p t)

off_cases : (off flag : Bool) {O : Type 0} → T off ↔ O → T (cond off false flag) ↔ (T flag × ¬ O)
off_cases true flag o = (λ t. absurd t, λ p. absurd (p.1 (o.0 tt)))
off_cases false flag o = (λ t. (t, λ x. o.1 x), λ p. p.0)

switched_off : (p : SetPoints) (t : Float) (flag : Bool) → T (switch_off p t flag) ↔ (T flag × ¬ (UpperMissingOrReached p t))
unfolding switch_off
switched_off p t flag = off_cases (upper_missing_or_reached p t) flag (reached_says p t)

-- ---- adjusted and supplied, case by case

adjusts_none : (input over : Float) → ¬ (T (lt zero_f input)) → adjusted input over ≡ zero_f
unfolding adjusted
adjusts_none input over n = rw (not_true (lt zero_f input) n)

adjusts_some : (input over : Float) → T (lt zero_f input) → adjusted input over ≡ max_of2 zero_f (min_of2 (input ⊖ over) input)
unfolding adjusted
adjusts_some input over t = rw (is_true (lt zero_f input) t)

supplies_none : (x energy : Float) → T (wide_close x zero_f) → supply x energy ≡ min_of2 zero_f energy
unfolding supply demand
supplies_none x energy t = rw (is_true (wide_close x zero_f) t)

supplies_some : (x energy : Float) → ¬ (T (wide_close x zero_f)) → supply x energy ≡ min_of2 x energy
unfolding supply demand
supplies_some x energy n = rw (not_true (wide_close x zero_f) n)

module _ (m : TankDesign) (a : Step) where
  -- the heater h by make's arguments
  abbrev immersion : ℕ → Immersion
  immersion h = record { rated = rated_of m h; layer = heater_layer m h; thermostat = thermostat_layer m h }

  -- a turn of the heater h, as x has it, from s
  abbrev turn_from : ℕ → Heating → Immersion → Turned → Turn
  turn_from h s x u = record {
    heater = h;
    points = points_of a h;
    before = s.temps;
    start = get_or s.temps x.thermostat nan;
    turned = u;
    finish = get_or u.temps x.thermostat nan;
  }

  abbrev turn_by : ℕ → Heating → Immersion → Turn
  turn_by h s x = turn_from h s x (turn (cylinder_of m) (volumes_of m) x (points_of a h) s.temps s.charged (get_or s.flags h false))

  turn_is : (h : ℕ) (s : Heating) → h < m.heaters → turn_of (fixed_of m) (points_of a) h s ≡ turn_by h s (immersion h)
  unfolding turn_of layer_volumes layer_volume
  turn_is h s l = ap (λ (y : Placed). turn_by h s (immersed m.layers y)) (heater_is m h l)

  -- whether it runs, and what its mixing comes to
  abbrev runs : ℕ → Heating → Bool
  runs h s = switch_on (points_of a h) (get_or s.temps (thermostat_layer m h) nan) (get_or s.flags h false)

  -- what each layer is offered
  abbrev offers_from : ℕ → Bool → ℕ → Float
  offers_from h on = offers_to (heater_layer m h) (offer on (max_energy m h))

  abbrev mixing_of : ℕ → Heating → Mixing
  mixing_of h s = heat_and_mix (cylinder_of m) (volumes_of m) (points_of a h) (heater_layer m h) (offers_from h (runs h s)) s.temps s.charged

  -- `calc_final_temps` by what the mixing came to
  abbrev final_temps : ℕ → Heating → Bool → Mixing → FinalTemps
  final_temps h s on x = after_mixing (cylinder_of m) (volumes_of m) (points_of a h) (heater_layer m h) (offers_from h on) s.temps s.charged x

  -- the turn by what its mixing came to
  abbrev turn_after : ℕ → Heating → Mixing → Turn
  turn_after h s x = turn_from h s (immersion h) (after_heat (cylinder_of m) (immersion h) (points_of a h) (runs h s) (final_temps h s (runs h s) x))

  turn_after_lem : (h : ℕ) (s : Heating) → h < m.heaters → turn_of (fixed_of m) (points_of a) h s ≡ turn_after h s (mixing_of h s)
  unfolding turn calc_final_temps
  turn_after_lem h s l = turn_is h s l

  -- what it heats, and then mixes
  abbrev heated_of : ℕ → Heating → List Float
  heated_of h s = heated (cylinder_of m) (volumes_of m) (offers_from h (runs h s)) s.temps

  mixing_is : (h : ℕ) (s : Heating) → MixingOf m.layers (volumes_of m) (heated_of h s) (mixing_of h s)
  unfolding heat_and_mix
  mixing_is h s = mixing_of_lem m.layers (volumes_of m) (heated_of h s)

  -- ---- its facts

  pub turn_of_lem : (fs : List Bool) (h : ℕ) (s : Heating) → h < m.heaters → get_or s.flags h false ≡ get_or fs h false → TurnOf m a fs h s (turn_of (fixed_of m) (points_of a) h s)
  turn_of_lem fs h s l f = rw (turn_after_lem h s l) (go (mixing_of h s) refl)
    where
      ran_by : T (runs h s) ↔ (HasUpper (points_of a h) × (AtOrUnderLower (points_of a h) (get_or s.temps (thermostat_layer m h) nan) ⊎ T (get_or fs h false)))
      ran_by = rw (← f) (switched_on (points_of a h) (get_or s.temps (thermostat_layer m h) nan) (get_or s.flags h false))

      go : (x : Mixing) → x ≡ mixing_of h s → TurnOf m a fs h s (turn_after h s x)
      go (sorted after k) e = unfold after_heat after_mixing adjusted_input in (record {
        heater = refl;
        points = refl;
        before = refl;
        start = refl;
        ran = ran_by;
        mixing = subst (MixingOf m.layers (volumes_of m) (heated_of h s)) (sym e) (mixing_is h s);
        after_mixing = (
          record {
            temps = refl;
            charged = refl;
            losses = refl;
            no_input = adjusts_none _ _;
            some_input = adjusts_some _ _;
            none_asked = supplies_none _ _;
            some_asked = supplies_some _ _;
            flag = switched_off _ _ _;
          },
          refl,
        );
        finish = refl;
      })
      go unsorted e = unfold after_heat after_mixing in (record {
        heater = refl;
        points = refl;
        before = refl;
        start = refl;
        ran = ran_by;
        mixing = subst (MixingOf m.layers (volumes_of m) (heated_of h s)) (sym e) (mixing_is h s);
        after_mixing = tt;
        finish = refl;
      })

  -- ---- its supply, by what it is

  -- what the checks say of a heater
  abbrev pub Fair : ℕ → Type 0
  Fair h = T (not_negative (rated_of m h)) × (h < m.heaters)

  module _ (timestep : T (is_positive m.timestep)) (fs : List Bool) (h : ℕ) (s : Heating) (u : Turn) (fair : Fair h) (t : TurnOf m a fs h s u) where
    -- what stands over the upper set point after a mixing that left `after`
    abbrev over : List Float → Float
    over after = surplus (cylinder_of m) (volumes_of m) u.points s.temps after s.charged (heater_layer m h)

    adjusted_is : (after : List Float) → FiguresOf m h s u after → u.turned.adjusted ≡ adjusted (input_of m h u) (over after)
    adjusted_is after f = go (lt zero_f (input_of m h u)) refl
      where
        go : (b : Bool) → lt zero_f (input_of m h u) ≡ b → u.turned.adjusted ≡ adjusted (input_of m h u) (over after)
        go true e = let i = subst T (sym e) tt in f.some_input i ∙ sym (adjusts_some (input_of m h u) (over after) i)
        go false e = let i : ¬ (T (lt zero_f (input_of m h u))) = λ x. rw e at x in f.no_input i ∙ sym (adjusts_none (input_of m h u) (over after) i)

    supplied_is : (after : List Float) → FiguresOf m h s u after → u.turned.supplied ≡ supply u.turned.adjusted (max_energy m h)
    supplied_is after f = go (wide_close u.turned.adjusted zero_f) refl
      where
        go : (b : Bool) → wide_close u.turned.adjusted zero_f ≡ b → u.turned.supplied ≡ supply u.turned.adjusted (max_energy m h)
        go true e = let i = subst T (sym e) tt in f.none_asked i ∙ sym (supplies_none u.turned.adjusted (max_energy m h) i)
        go false e = let i : ¬ (T (wide_close u.turned.adjusted zero_f)) = λ x. rw e at x in f.some_asked i ∙ sym (supplies_some u.turned.adjusted (max_energy m h) i)

    pub turn_supplies : T (passed u.turned.mixing) → RightlySupplied m u u.turned.supplied
    turn_supplies p = go u.turned.mixing p t.after_mixing
      where
        go : (x : Mixing) → T (passed x) → AfterMixing m h s u x → RightlySupplied m u u.turned.supplied
        go unsorted p q = absurd p
        go (sorted after k) p q = rw (t.heater, supplied_is after q.0) (
          λ n. rw (adjusted_is after q.0, not_true u.turned.ran (λ r. off u.turned.ran n r)) (supply_off (rated_of m h) m.timestep fair.0 timestep m.layers (heater_layer m h) _ _),
          supply_at_most (rated_of m h) m.timestep fair.0 timestep u.turned.adjusted,
        )
          where
            off : (b : Bool) → T (not b) → ¬ (T b)
            off true n r = n
            off false n r = r
