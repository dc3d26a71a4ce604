-- Proves what events and turns hand on, and that the number which each draws is the one that demand 3's course states (01, Step; refusals 9 and 10).
use mathlib.Core.Path.{◌≡◌, refl, sym, ap, ◌∙◌, subst}
use mathlib.Core.Logic.{inl, inr, ◌≢◌}
use mathlib.Core.List.{List, [], ◌∷◌}
use mathlib.Core.Bool.{Bool, false, cond}
use Prim.Native.Nat.{ℕ, ◌<◌}
use lib.ListN.{length, get_or, set}
use lib.Seq.{get_or-set_other}
use lib.Ieee.{Float}
use lib.Ieee.Bits.{is_true}
use Rattle.numeric.specs.Double.{zero_f}
use Rattle.numeric.specs.Close.{wide_close}
use Rattle.mixing.specs.Rearrange.{Mixing, sorted, unsorted}
use Rattle.draw_events.specs.Event as Event
use Rattle.draw_events.specs.Event.{Event, EventMixing, unmixed, mixed, temps_after_event, totals_after_event, event_finite, event_number}
use Rattle.immersion_heater.specs.Turn as Turn
use Rattle.immersion_heater.specs.Turn.{turn_finite, turn_number}
use Rattle.tank_model.specs.declared.TankDesign.{TankDesign}
use Rattle.tank_model.specs.Fixed.{State}
use Rattle.tank_model.specs.Run.{done, end_by}
use Rattle.tank_model.specs.Work.{DrawOff, after_event, undrawn, average_of, Heating, Turn, line_of, after_turn, unheated, recoverable, close}
use Rattle.tank_model.specs.Members.{All}
use Rattle.tank_model.specs.Arguments.{cylinder_of}
use Rattle.tank_model.specs.Refusals.{FirstOf}
use Rattle.tank_model.specs.Course.{EventLeaves, EventNotFinite, EventDraws, LineTells, TurnLeaves, TurnNotFinite, TurnDraws, EventsOpen, Averages, TurnsOpen, recoverable_of, EndNotFinite, Closes}
use Rattle.tank_model.proofs.Members.{all_map, all_both}
use Rattle.tank_model.proofs.Sentences.{not_true, Fails, passing, failing, fails_two, fails_three, fails_four, fails_finite}
use Rattle.tank_model.proofs.Refusals.{layers_fail}

-- the number drawn: 9 for a mixing out of order, which comes first, 10 for what is not finite, and else 0
nine_or_ten : {Nine Ten : Type 0} {b : Bool} → ¬ Nine → Fails Ten b → FirstOf ((9, Nine) ∷ (10, Ten) ∷ []) (cond b 0 10)
nine_or_ten n (passing f) = inr (n, inr (f, refl))
nine_or_ten n (failing f) = inr (n, inl (f, refl))

pub nine_drawn : {Nine Ten : Type 0} (n : ℕ) → Nine → FirstOf ((9, Nine) ∷ (10, Ten) ∷ []) n → n ≡ 9
nine_drawn n x (inl p) = p.1
nine_drawn n x (inr p) = absurd (p.0 x)

-- ---- an event

abbrev EventUnsorted : EventMixing → Type 0
EventUnsorted unmixed = ⊥
EventUnsorted (mixed (sorted temps k)) = ⊥
EventUnsorted (mixed unsorted) = Unit {0}

module _ (m : TankDesign) (e : Event) (s : DrawOff) where
  abbrev after : DrawOff
  after = after_event (cylinder_of m) e s

  pub event_leaves : EventLeaves m s e after
  unfolding temps_after_event totals_after_event
  event_leaves = record {
    temps_mixed = λ a k q. rw q;
    temps_unmixed = λ q. rw q;
    energy = refl;
    used = refl;
    weighted = refl;
    drawn = refl;
  }

  event_fails : Fails (EventNotFinite m after) (event_finite (cylinder_of m) (temps_after_event e) (totals_after_event (cylinder_of m) e s.totals))
  unfolding event_finite
  event_fails =
      let t = totals_after_event (cylinder_of m) e s.totals in
      fails_three (layers_fail m (temps_after_event e)) (fails_finite t.energy) (fails_finite t.used)

  pub event_draws : EventDraws m e after (event_number (cylinder_of m) e s.totals)
  unfolding event_number
  event_draws = go e.mixing _ refl event_fails
    where
      go : (x : EventMixing) (b : Bool) → e.mixing ≡ x → Fails (EventNotFinite m after) b → EventDraws m e after (Event.number_after x b)
      go unmixed b q f = nine_or_ten (λ z. subst EventUnsorted (sym z ∙ q) tt) f
      go (mixed unsorted) b q f = inl (q, refl)
      go (mixed (sorted temps k)) b q f = nine_or_ten (λ z. subst EventUnsorted (sym z ∙ q) tt) f

-- ---- a turn

abbrev Unsorted : Mixing → Type 0
Unsorted (sorted temps k) = ⊥
Unsorted unsorted = Unit {0}

pub line_tells : (u : Turn) → LineTells u (line_of u.turned)
line_tells u = record { flag = refl; adjusted = refl; supplied = refl; losses = refl; rounds = refl }

pub turn_leaves : (u : Turn) (s : Heating) → u.heater < length s.flags → u.heater < length s.lines → TurnLeaves s u (after_turn u.heater u.turned s)
turn_leaves u s l k = record {
  temps = refl;
  charged = refl;
  flag_place = l;
  flags = refl;
  line_place = k;
  lines = (line_of u.turned, line_tells u, refl);
  losses = refl;
}

-- the flags of the heaters hs are still those of fs
abbrev pub Same : List Bool → Heating → List ℕ → Type 0
Same fs s hs = All (λ (h : ℕ). get_or s.flags h false ≡ get_or fs h false) hs

pub all_same : (fs : List Bool) (s : Heating) (hs : List ℕ) → s.flags ≡ fs → Same fs s hs
all_same fs s [] q = tt
all_same fs s (h ∷ hs) q = (ap (λ (l : List Bool). get_or l h false) q, all_same fs s hs q)

-- a turn leaves the other heaters' flags as they were
pub same_after : (fs : List Bool) (h : ℕ) (hs : List ℕ) (s s' : Heating) (b : Bool) → s'.flags ≡ set s.flags h b → All (λ (k : ℕ). h ≢ k) hs → Same fs s hs → Same fs s' hs
same_after fs h hs s s' b e d q =
    all_map (λ (k : ℕ). (h ≢ k) × (get_or s.flags k false ≡ get_or fs k false)) (λ (k : ℕ). get_or s'.flags k false ≡ get_or fs k false)
    (λ k r. rw e (get_or-set_other s.flags h k b false (λ z. r.0 (sym z)) ∙ r.1)) hs
    (all_both (λ (k : ℕ). h ≢ k) (λ (k : ℕ). get_or s.flags k false ≡ get_or fs k false) hs d q)

module _ (m : TankDesign) (u : Turn) where
  turn_fails : Fails (TurnNotFinite m u) (turn_finite (cylinder_of m) u.turned)
  unfolding turn_finite
  turn_fails =
      let t = u.turned in
      fails_four (layers_fail m t.temps) (fails_finite t.adjusted) (fails_finite t.supplied) (fails_finite t.losses)

  pub turn_draws : TurnDraws m u (turn_number (cylinder_of m) u.turned)
  unfolding turn_number
  turn_draws = go u.turned.mixing _ refl turn_fails
    where
      go : (x : Mixing) (b : Bool) → u.turned.mixing ≡ x → Fails (TurnNotFinite m u) b → TurnDraws m u (Turn.number_after x b)
      go unsorted b q f = inl (q, refl)
      go (sorted temps k) b q f = nine_or_ten (λ z. subst Unsorted (sym z ∙ q) tt) f

-- ---- how the events and the turns begin, the average between them, and how the step closes

pub events_open : (st : State) → EventsOpen st (undrawn st.temps)
events_open st = record { temps = refl; totals = refl }

pub averages : (m : TankDesign) (s : DrawOff) → Averages m s (average_of (cylinder_of m) s)
unfolding average_of
averages m s = record {
  some_drawn = λ t. rw (not_true (wide_close s.totals.drawn zero_f) t);
  none_drawn = λ t. rw (is_true (wide_close s.totals.drawn zero_f) t);
}

pub turns_open : (st : State) (d : DrawOff) → TurnsOpen st d (unheated d.temps st.flags)
turns_open st d = record { temps = refl; flags = refl; charged = refl; losses = refl; lines = refl }

pub closes : (d : DrawOff) (x : Float) (s : Heating) → Closes (close d x (done s)) d x s
unfolding close recoverable
closes d x s = go (fails_two (fails_finite x) (fails_finite (recoverable_of s)))
  where
    go : {b : Bool} → Fails (EndNotFinite x s) b → Closes (end_by (cond b 0 10) (record { drawn = d; average = x; heated = s })) d x s
    go (passing f) = unfold end_by in (inr (f, refl))
    go (failing f) = unfold end_by in (inl (f, refl))
