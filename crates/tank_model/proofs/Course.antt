-- Proves that a step's work takes the course that demand 3 states (01, Step; Turn).
use mathlib.Core.Path.{◌≡◌, refl, sym, ap, ◌∙◌, subst}
use mathlib.Core.Logic.{inl, inr}
use mathlib.Core.List.{List, ◌∷◌}
use mathlib.Core.Bool.{Bool, true, false}
use Prim.Native.Nat.{ℕ, zero, suc, ◌<◌, ◌≤◌}
use native.Mathlib.Omega.{arith}
use lib.Dec.{T, leb→le}
use lib.ListN.{length, length-set}
use lib.Ieee.{Float}
use Rattle.mixing.specs.Rearrange.{Mixing, rearrange}
use Rattle.cylinder.specs.Layers.{layer_volume, layer_volumes, all_finite}
use Rattle.draw_events.specs.Event.{Event, unmixed, mixed, event_mixing, event_of}
use Rattle.immersion_heater.specs.Turn.{Turned}
use Rattle.working_order.specs.Order.{max_heaters}
use Rattle.tank_model.specs.declared.TankDesign.{TankDesign}
use Rattle.tank_model.specs.declared.Step.{Step}
use Rattle.tank_model.specs.Fixed.{State, fixed_of}
use Rattle.tank_model.specs.Order.{working_order}
use Rattle.tank_model.specs.Checks.{points_of, step_checks, step_refusal}
use Rattle.tank_model.specs.Run.{End, refused, done, run}
use Rattle.tank_model.specs.Work.{DrawOff, undrawn, work_event, wanted_volumes, events, average_of, Heating, Turn, unheated, turn_of, after_turn, work_turn, turns, close, then_turns, begin, work}
use Rattle.tank_model.specs.Members.{All, Distinct}
use Rattle.tank_model.specs.Arguments.{cylinder_of, volumes_of, feed_of}
use Rattle.tank_model.specs.Course.{number_of, MixingOf, EventOf, EventDraws, EventPart, TurnDraws, TurnPart, Closes, Turns, ThenTurns, EventsThenTurns, Course}
use Rattle.tank_model.proofs.Run.{not_done, done_inj, Ran, run_ran, sequence_map}
use Rattle.tank_model.proofs.Order.{heaters_many, order_below, order_once}
use Rattle.tank_model.proofs.Mixings.{mixing_of_lem}
use Rattle.tank_model.proofs.TurnFacts.{turn_of_lem}
use Rattle.tank_model.proofs.Passes.{tank_passes}
use Rattle.tank_model.proofs.Refusals.{step_refused_as}
use Rattle.tank_model.proofs.Parts.{event_leaves, event_draws, Same, all_same, same_after, turn_leaves, turn_draws, events_open, averages, turns_open, closes}

module _ (m : TankDesign) (a : Step) where
  -- ---- the events

  mixing_mixed : (b : Bool) (temps : List Float) → T b → (x : Mixing) × (event_mixing b m.layers (fixed_of m).vol temps ≡ mixed x) × MixingOf m.layers (volumes_of m) temps x
  unfolding event_mixing layer_volumes layer_volume
  mixing_mixed true temps t = (rearrange m.layers (volumes_of m) temps, refl, mixing_of_lem m.layers (volumes_of m) temps)
  mixing_mixed false temps t = absurd t

  mixing_unmixed : (b : Bool) (temps : List Float) → ¬ (T b) → event_mixing b m.layers (fixed_of m).vol temps ≡ unmixed
  unfolding event_mixing
  mixing_unmixed true temps n = absurd (n tt)
  mixing_unmixed false temps n = refl

  event_of_lem : (v : Float) (s : DrawOff) → EventOf m (feed_of a) v s (event_of (cylinder_of m) (fixed_of m).vol (feed_of a) v s.temps s.totals)
  unfolding event_of layer_volumes layer_volume
  event_of_lem v s = record { wanted = refl; before = refl; draw = refl; refill = refl; mixing = mixing_mixed _ _; no_mixing = mixing_unmixed _ _ }

  event_one : (v : Float) (vs : List Float) (s : DrawOff) → Unit {0}
      → let w = work_event (fixed_of m) (feed_of a) v s in
      EventPart m a v s w.part w.leaves × EventDraws m w.part w.leaves w.number × Unit {0}
  unfolding work_event
  event_one v vs s o = let e = event_of (cylinder_of m) (fixed_of m).vol (feed_of a) v s.temps s.totals in ((event_of_lem v s, event_leaves m e s), event_draws m e s, tt)

  -- ---- the turns

  -- a place for each flag and for each line
  abbrev Places : Heating → Type 0
  Places s = (length s.flags ≡ max_heaters) × (length s.lines ≡ max_heaters)

  places_after : (h : ℕ) (u : Turned) (s : Heating) → Places s → Places (after_turn h u s)
  places_after h u s p = (length-set s.flags h _ ∙ p.0, length-set s.lines h _ ∙ p.1)

  -- before the turns of hs: each is a heater, none comes twice, and its flag is still the one of the step's start
  record Before (fs : List Bool) (hs : List ℕ) (s : Heating) : Type 0 where
    heaters : All (λ (h : ℕ). h < m.heaters) hs
    once : Distinct hs
    same : Same fs s hs
    places : Places s

  module _ (few : m.heaters ≤ max_heaters) (fs : List Bool) where
    turn_one : (h : ℕ) (hs : List ℕ) (s : Heating) → Before fs (h ∷ hs) s
        → let w = work_turn (fixed_of m) (points_of a) h s in
        TurnPart m a fs h s w.part w.leaves × TurnDraws m w.part w.number × Before fs hs w.leaves
    unfolding work_turn
    turn_one h hs s b =
        let u = turn_of (fixed_of m) (points_of a) h s in
        let j : h < max_heaters = omega (arith, few, b.heaters.0) in (
          (turn_of_lem m a fs h s b.heaters.0 b.same.0, unfold turn_of in (turn_leaves u s (rw b.places.0 j) (rw b.places.1 j))),
          turn_draws m u,
          record { heaters = b.heaters.1; once = b.once.1; same = same_after fs h hs s (after_turn h u.turned s) u.turned.flag refl b.once.0 b.same.1; places = places_after h u.turned s b.places },
        )

  -- ---- the step

  close_refused : (d : DrawOff) (x : Float) (e : End Heating) (n : ℕ) → e ≡ refused n → close d x e ≡ refused n
  unfolding close
  close_refused d x e n q = rw q

  close_done : (d : DrawOff) (x : Float) (e : End Heating) (s : Heating) → e ≡ done s → Closes (close d x e) d x s
  close_done d x e s q = rw q (closes d x s)

  few_heaters : (st : State) → step_refusal (fixed_of m) st a ≡ 0 → m.heaters ≤ max_heaters
  unfolding step_refusal
  few_heaters st l = subst (λ (k : ℕ). k ≤ max_heaters) (heaters_many m) (leb→le _ max_heaters (tank_passes (fixed_of m) (all_finite m.layers st.temps) (step_checks (fixed_of m) a) l).heaters)

  module _ (st : State) (long : length st.flags ≡ max_heaters) where
    abbrev order : List ℕ
    order = working_order (fixed_of m)

    turned : m.heaters ≤ max_heaters → (d : DrawOff) (x : Float)
        → let r = turns (fixed_of m) (points_of a) d.temps st.flags in
        Turns m a st.flags d x (unheated d.temps st.flags) r.parts (close d x r.end)
    unfolding turns
    turned b d x =
        let s = unheated d.temps st.flags in
        let e = (run (work_turn (fixed_of m) (points_of a)) order s).end in
        sequence_map (TurnPart m a st.flags) (λ (u : Turn) (y : Heating). TurnDraws m u) (λ (y : Heating). e ≡ done y) (λ (n : ℕ). e ≡ refused n) (Closes (close d x e) d x) (λ (n : ℕ). close d x e ≡ refused n)
        (λ y q. close_done d x e y q) (λ n q. close_refused d x e n q) order s _
        (run_ran (work_turn (fixed_of m) (points_of a)) (TurnPart m a st.flags) (λ (u : Turn) (y : Heating). TurnDraws m u) (Before st.flags) (turn_one b st.flags) order s
        (record { heaters = rw (heaters_many m) at (order_below (fixed_of m)); once = order_once (fixed_of m); same = all_same st.flags s order refl; places = (long, refl) }))

    turns_follow : m.heaters ≤ max_heaters → (es : List Event) (d : DrawOff) → ThenTurns m st a (then_turns (fixed_of m) st a es (done d)) d
    unfolding then_turns
    turns_follow b es d = (average_of (cylinder_of m) d, averages m d, (unheated d.temps st.flags, turns_open st d, turned b d (average_of (cylinder_of m) d)))

    then_turns_lem : m.heaters ≤ max_heaters → (es : List Event) (e : End DrawOff)
        → Ran (EventPart m a) (EventDraws m) (undrawn st.temps) (wanted_volumes a) es e
        → EventsThenTurns m st a (then_turns (fixed_of m) st a es e) (undrawn st.temps)
    unfolding then_turns
    then_turns_lem b es (refused n) r =
        sequence_map (EventPart m a) (EventDraws m) (λ (x : DrawOff). refused n ≡ done x) (λ (k : ℕ). ◌≡◌ {A = End DrawOff} (refused n) (refused k)) _ _
        (λ x z. absurd (not_done n x z)) (λ k z. (ap refused (ap number_of z), refl)) (wanted_volumes a) (undrawn st.temps) es r
    then_turns_lem b es (done d) r =
        let w = then_turns (fixed_of m) st a es (done d) in
        sequence_map (EventPart m a) (EventDraws m) (λ (x : DrawOff). done d ≡ done x) (λ (k : ℕ). done d ≡ refused k) (ThenTurns m st a w) _
        (λ x z. subst (ThenTurns m st a w) (done_inj d x z) (turns_follow b es d)) (λ k z. absurd (not_done k d (sym z))) (wanted_volumes a) (undrawn st.temps) es r

    pub work_course : Course m st a (work (fixed_of m) st a)
    unfolding work
    work_course = go (step_refusal (fixed_of m) st a) refl
      where
        go : (n : ℕ) → step_refusal (fixed_of m) st a ≡ n → Course m st a (begin (fixed_of m) st a n)
        go (suc n) l = unfold begin in (inl (suc n, omega arith, (step_refused_as m st a (suc n)).0 l, refl, refl, refl))
        go zero l = unfold begin events in (
            inr (
              (step_refused_as m st a 0).0 l,
              (undrawn st.temps, events_open st, then_turns_lem (few_heaters st l) _ _ (run_ran (work_event (fixed_of m) (feed_of a)) (EventPart m a) (EventDraws m) (λ (vs : List Float) (s : DrawOff). Unit {0}) event_one (wanted_volumes a) (undrawn st.temps) tt)),
            ))
