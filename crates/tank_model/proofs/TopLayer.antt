-- Proves what became of position 1 (02, R-2). `position_widened`: 5 lets 01's positions pass, and what equals 1, and nothing else; `equals_one`: a double that
-- equals 1 is 1. `heater_in_the_top` and `thermostat_in_the_top`: in the words of demand 3, a heater or a thermostat at 1 is in the top layer.
-- `as_just_below`: a tank with positions of 1 is stepped as the same tank with the largest double below 1 in the place of any of them, refusals, events and
-- turns, wherever the order of work is the same; `lowered_one`: there are such tanks.
use mathlib.Core.Path.{◌≡◌, refl, sym, ap, ◌∙◌}
use mathlib.Core.Logic.{inl, inr}
use mathlib.Core.List.{List, [], ◌∷◌}
use mathlib.Core.Bool.{Bool, true, false, ◌&&◌, ◌||◌, true≢false}
use Prim.Native.Nat.{ℕ, zero, suc, ◌-◌, ◌*◌, ◌≤◌, ◌<◌}
use native.Mathlib.Omega.{arith}
use borrow.Author.Tests.{ne_eqb}
use lib.Dec.{T, eqb, leb, leb→le, eqb→eq}
use lib.IntN.{ℤ}
use lib.Pow.{pow_pos}
use lib.ListN.{get_or}
use lib.Ieee.{Float, nan, inf, fin, binary64, fits, lt, le, eq, of_bits, up, down}
use lib.Ieee.Bits.{is_true}
use lib.Ieee.Fits.{down_pos, and_l, and_r}
use lib.Ieee.Order.{le_of_values}
use Rattle.numeric.specs.Double.{zero_f, one_f, just_below_one}
use Rattle.numeric.specs.Tabulate.{tabulate}
use Rattle.numeric.specs.Whole.{layer_of}
use Rattle.numeric.proofs.Layer.{layer_of_one, layer_just_below}
use Rattle.numeric.proofs.SameValue.{equal_same, same_above}
use Rattle.mixing.specs.Limits.{max_layers}
use Rattle.cylinder.specs.Layers.{all_finite}
use Rattle.draw_off.specs.declared.cold.Feed.{Feed}
use Rattle.draw_events.specs.Event.{Event}
use Rattle.set_points.specs.declared.SetPoints.{SetPoints}
use Rattle.working_order.specs.Order.{insert, insertion_sort, rising_order}
use Rattle.tank_model.specs.declared.TankDesign.{TankDesign}
use Rattle.tank_model.specs.declared.Step.{Step}
use Rattle.tank_model.specs.Fixed.{Placed, not_placed, Fixed, State, heater_of}
use Rattle.tank_model.specs.Order.{working_order}
use Rattle.tank_model.specs.FirstRefusal.{first_among}
use Rattle.tank_model.specs.Checks.{unless, not_negative, is_position, heater_check, places_check, step_checks, points_of, step_refusal}
use Rattle.tank_model.specs.Run.{End, refused, done, Run, run}
use Rattle.tank_model.specs.Work.{DrawOff, Heating, Turn, undrawn, unheated, feed_in, wanted_volumes, work_event, events, average_of, turn_of, work_turn, turns, close, then_turns, begin, work}
use Rattle.tank_model.specs.Arguments.{position_of, thermostat_of, heater_layer, thermostat_layer}
use Rattle.tank_model.specs.TopLayer.{below_one, Lowered, with_heaters, LoweredHeaters}
use Rattle.tank_model.proofs.Passes.{tank_passes}

-- ---- 5 begins above 1

at_least_zero : (m : ℕ) (e : ℤ) → T (le zero_f (fin false m e))
unfolding of_bits
at_least_zero m e = le_of_values zero_f (fin false m e) 0 1 (m * up e) (down e) (pow_pos 0) (down_pos e) (refl, refl) (refl, refl) (omega arith)

-- -a / b and 1 are not equal
minus_not_one : (a b : ℕ) → 0 < b → (eqb a b && eqb a 0) ≡ false
minus_not_one a b l = go (eqb a b) (eqb→eq a b)
  where
    go : (t : Bool) → (T t → a ≡ b) → (t && eqb a 0) ≡ false
    go false f = refl
    go true f = let e = f tt in ne_eqb a 0 (λ z. omega arith)

not_one : (x : Float) → le zero_f x ≡ false → eq x one_f ≡ false
unfolding eq of_bits
not_one nan h = refl
not_one (inf s) h = refl
not_one (fin true m e) h = let p = down_pos e in minus_not_one (m * up e * 1) (1 * 1 * down e) (omega arith)
not_one (fin false m e) h = absurd (true≢false (sym (is_true _ (at_least_zero m e)) ∙ h))

-- what a check passes is 01's position, or equals 1
pub position_widened : (x : Float) → is_position x ≡ (below_one x || eq x one_f)
unfolding le
position_widened x = go (le zero_f x) (lt x one_f) (eq x one_f) (not_one x)
  where
    go : (a b c : Bool) → (a ≡ false → c ≡ false) → (a && (b || c)) ≡ ((a && b) || c)
    go true b c f = refl
    go false b c f = sym (f refl)

-- and a double that equals 1 is 1
one_fits : T (fits binary64 one_f)
unfolding fits of_bits
one_fits = tt

one_above_zero : lt zero_f one_f ≡ true
unfolding lt of_bits
one_above_zero = refl

pub equals_one : (x : Float) → T (fits binary64 x) → eq x one_f ≡ true → x ≡ one_f
equals_one x f h = same_above x one_f (equal_same x one_f f one_fits h) one_above_zero

-- ---- the top layer, of a heater given as h

module _ (m : TankDesign) (h : ℕ) (some : 1 ≤ m.layers) (most : m.layers ≤ max_layers) where
  pub heater_in_the_top : position_of m h ≡ one_f → heater_layer m h ≡ m.layers - 1
  heater_in_the_top e = ap (λ (x : Float). layer_of x m.layers) e ∙ layer_of_one m.layers some (omega arith)

  pub thermostat_in_the_top : thermostat_of m h ≡ one_f → thermostat_layer m h ≡ m.layers - 1
  thermostat_in_the_top e = ap (λ (x : Float). layer_of x m.layers) e ∙ layer_of_one m.layers some (omega arith)

-- ---- the largest double below 1 in the place of 1

both_positions : is_position just_below_one ≡ is_position one_f
unfolding le lt eq of_bits
both_positions = refl

lowered_position : (x y : Float) → Lowered x y → is_position y ≡ is_position x
lowered_position x y (inl e) = ap is_position e
lowered_position x y (inr p) = ap is_position p.1 ∙ (both_positions ∙ ap is_position (sym p.0))

lowered_layer : (n : ℕ) → 1 ≤ n → n ≤ 64 → (x y : Float) → Lowered x y → layer_of y n ≡ layer_of x n
lowered_layer n some most x y (inl e) = ap (λ (z : Float). layer_of z n) e
lowered_layer n some most x y (inr p) =
    ap (λ (z : Float). layer_of z n) p.1 ∙ (layer_just_below n some most ∙ ap (λ (z : Float). layer_of z n) (sym p.0))

module _ (f : Fixed) (hs : List Placed) (k : LoweredHeaters f hs) where
  abbrev g : Fixed
  g = with_heaters f hs

  -- the checks
  check_same : (h : ℕ) → heater_check (get_or hs h not_placed) ≡ heater_check (heater_of f h)
  check_same h = λ i.
      unless
      (not_negative (k.rated h i) && lowered_position (heater_of f h).position (get_or hs h not_placed).position (k.position h) i
      && lowered_position (heater_of f h).thermostat (get_or hs h not_placed).thermostat (k.thermostat h) i)
      5

  places_same : places_check hs ≡ places_check f.heaters
  places_same = λ i. first_among (λ (h : ℕ). check_same h i) (k.many i)

  refusal_same : (st : State) (a : Step) → step_refusal g st a ≡ step_refusal f st a
  unfolding step_refusal
  refusal_same st a = rw (places_same, k.many)

  -- the events
  event_same : (feed : Feed) (v : Float) (s : DrawOff) → work_event g feed v s ≡ work_event f feed v s
  unfolding work_event
  event_same feed v s = refl

  events_same : (a : Step) (temps : List Float) → events g a temps ≡ events f a temps
  unfolding events
  events_same a temps = λ i. run (λ (v : Float) (s : DrawOff). event_same (feed_in a) v s i) (wanted_volumes a) (undrawn temps)

  -- the turns, of a tank that has passed its checks
  module _ (some : 1 ≤ f.cylinder.layers) (most : f.cylinder.layers ≤ 64) where
    layer_same : (x y : Float) → Lowered x y → layer_of y f.cylinder.layers ≡ layer_of x f.cylinder.layers
    layer_same x y l = lowered_layer f.cylinder.layers some most x y l

    turn_same : (points : ℕ → SetPoints) (h : ℕ) (s : Heating) → work_turn g points h s ≡ work_turn f points h s
    unfolding work_turn turn_of
    turn_same points h s = rw (k.rated h, layer_same _ _ (k.position h), layer_same _ _ (k.thermostat h))

    turns_same : (points : ℕ → SetPoints) (temps : List Float) (flags : List Bool) → turns g points temps flags ≡ turns f points temps flags
    unfolding turns
    turns_same points temps flags = λ i. run (λ (h : ℕ) (s : Heating). turn_same points h s i) (k.order i) (unheated temps flags)

    then_same : (st : State) (a : Step) (es : List Event) (e : End DrawOff) → then_turns g st a es e ≡ then_turns f st a es e
    unfolding then_turns
    then_same st a es (refused n) = refl
    then_same st a es (done d) =
        ap (λ (r : Run Turn Heating). record { events = es; turns = r.parts; end = close d (average_of f.cylinder d) r.end })
        (turns_same (points_of a) d.temps st.flags)

  begin_same : (st : State) (a : Step) (n : ℕ) → (n ≡ 0 → (1 ≤ f.cylinder.layers) × (f.cylinder.layers ≤ 64)) → begin g st a n ≡ begin f st a n
  unfolding begin
  begin_same st a (suc n) l = refl
  begin_same st a zero l =
      ap (λ (r : Run Event DrawOff). then_turns g st a r.parts r.end) (events_same a st.temps) ∙ then_same (l refl).0 (l refl).1 st a _ _

  pub as_just_below : (st : State) (a : Step) → work (with_heaters f hs) st a ≡ work f st a
  unfolding work step_refusal
  as_just_below st a =
      let n = f.cylinder.layers in
      ap (begin g st a) (refusal_same st a)
      ∙ begin_same st a (step_refusal f st a)
      (λ e.
      let p = (tank_passes f (all_finite n st.temps) (step_checks f a) e).layers in
      let l = leb→le n max_layers (and_r (leb 1 n) (leb n max_layers) p) in
      (leb→le 1 n (and_l (leb 1 n) (leb n max_layers) p), omega arith))

-- ---- there are such tanks: one heater, with its thermostat, at 1

abbrev at : Float → Float → Placed
at rated place = record { rated = rated; position = place; thermostat = place }

abbrev fitted_at : Fixed → Float → Float → Fixed
fitted_at f rated place = with_heaters f (at rated place ∷ [])

pub lowered_one : (f : Fixed) (rated : Float) → LoweredHeaters (fitted_at f rated one_f) (at rated just_below_one ∷ [])
unfolding working_order rising_order insertion_sort insert tabulate
lowered_one f rated = record { many = refl; rated = same_rated; position = place; thermostat = place'; order = refl }
  where
    same_rated : (h : ℕ) → (get_or (at rated just_below_one ∷ []) h not_placed).rated ≡ (get_or (at rated one_f ∷ []) h not_placed).rated
    same_rated zero = refl
    same_rated (suc h) = refl

    place : (h : ℕ) → Lowered (get_or (at rated one_f ∷ []) h not_placed).position (get_or (at rated just_below_one ∷ []) h not_placed).position
    place zero = inr (refl, refl)
    place (suc h) = inl refl

    place' : (h : ℕ) → Lowered (get_or (at rated one_f ∷ []) h not_placed).thermostat (get_or (at rated just_below_one ∷ []) h not_placed).thermostat
    place' zero = inr (refl, refl)
    place' (suc h) = inl refl
