-- Proves that the course of a step leaves no choice: two works that take one step's course from one state have the same events, turns that are alike as far as they
-- got, and the same end, be it a number or the same layers, totals, average, flags, charges, losses and lines. So nothing that a step hands on is left unsaid.
use mathlib.Core.Path.{◌≡◌, refl, sym, ap, ap₂, ◌∙◌, subst}
use mathlib.Core.Logic.{inl, inr, ⊎_elim}
use mathlib.Core.List.{List, [], ◌∷◌, ◌++◌}
use mathlib.Core.Bool.{Bool, true, false}
use Prim.Native.Nat.{ℕ}
use native.Mathlib.Omega.{arith}
use lib.Dec.{T}
use lib.ListN.{set}
use lib.Ieee.{Float, lt}
use Rattle.numeric.specs.Double.{zero_f}
use Rattle.numeric.specs.Close.{wide_close}
use Rattle.numeric.specs.Tabulate.{tabulate}
use Rattle.mixing.specs.Rearrange.{Mixing, sorted, unsorted}
use Rattle.draw_events.specs.Event.{Event, EventMixing, unmixed, mixed}
use Rattle.tank_model.specs.declared.TankDesign.{TankDesign}
use Rattle.tank_model.specs.declared.HeaterLine.{HeaterLine}
use Rattle.tank_model.specs.declared.Step.{Step}
use Rattle.tank_model.specs.Fixed.{State, fixed_of}
use Rattle.tank_model.specs.Order.{working_order}
use Rattle.tank_model.specs.Run.{End, refused}
use Rattle.tank_model.specs.Work.{DrawOff, Heating, Turn, Outcome, Work}
use Rattle.tank_model.specs.Arguments.{feed_of, event_volume, volumes_of}
use Rattle.tank_model.specs.Refusals.{LayerNotFinite, FirstOf, tank_sentences, step_sentences, StepRefusal}
use Rattle.tank_model.specs.Course.{passed, EventOf, EventLeaves, EventNotFinite, EventDraws, EventPart, input_of, FiguresOf, AfterMixing, TurnOf, LineTells, TurnLeaves, TurnNotFinite, TurnDraws, TurnPart, Averages, TurnsOpen, Closes, Turns, ThenTurns, EventsThenTurns, Course}
use Rattle.tank_model.proofs.Run.{Pairwise, sequence_once}
use Rattle.tank_model.proofs.Sentences.{same_test}
use Rattle.tank_model.proofs.Refusals.{first_once}
use Rattle.tank_model.proofs.Mixings.{mixing_once}
use Rattle.tank_model.proofs.Parts.{nine_drawn}
use Rattle.tank_model.proofs.SameFields.{totals_eq, draw_off_eq, heating_eq, event_eq, line_eq, turned_eq, turn_eq}

-- ---- what is the same

-- two turns up to their mixings, and, where these handed on layers, the whole of them; what follows a mixing out of order is seen nowhere
pub record AlikeTurns (u v : Turn) : Type 0 where
  pub heater : u.heater ≡ v.heater
  pub points : u.points ≡ v.points
  pub before : u.before ≡ v.before
  pub start : u.start ≡ v.start
  pub ran : u.turned.ran ≡ v.turned.ran
  pub mixing : u.turned.mixing ≡ v.turned.mixing
  pub whole : T (passed u.turned.mixing) → u ≡ v

pub record AlikeWorks (w x : Work) : Type 0 where
  pub end : w.end ≡ x.end
  pub events : w.events ≡ x.events
  pub turns : Pairwise AlikeTurns w.turns x.turns

pairwise_equal : {A : Type 0} (xs ys : List A) → Pairwise (λ (x y : A). x ≡ y) xs ys → xs ≡ ys
pairwise_equal [] [] p = refl
pairwise_equal [] (y ∷ ys) p = absurd p
pairwise_equal (x ∷ xs) [] p = absurd p
pairwise_equal (x ∷ xs) (y ∷ ys) p = ap₂ (λ z zs. z ∷ zs) p.0 (pairwise_equal xs ys p.1)

-- ---- the events

module _ (m : TankDesign) (a : Step) where
  event_same : (v : Float) (s : DrawOff) (d e : Event) → EventOf m (feed_of a) v s d → EventOf m (feed_of a) v s e → d ≡ e
  event_same v s d e p q = event_eq d e (p.wanted ∙ sym q.wanted) (p.before ∙ sym q.before) draw_same refill_same (go e.refill.mixes refl)
    where
      draw_same : d.draw ≡ e.draw
      draw_same = p.draw ∙ sym q.draw

      refill_same : d.refill ≡ e.refill
      refill_same = rw (p.refill, q.refill, draw_same)

      go : (b : Bool) → e.refill.mixes ≡ b → d.mixing ≡ e.mixing
      go true z =
          let x = p.mixing (rw (refill_same, z) tt) in
          let y = q.mixing (rw z tt) in
          x.1 ∙ ap mixed (mixing_once m.layers (volumes_of m) e.refill.temps x.0 y.0 (rw refill_same at x.2) y.2) ∙ sym y.1
      go false z = p.no_mixing (λ c. rw (refill_same, z) at c) ∙ sym (q.no_mixing (λ c. rw z at c))

  -- where its mixing is not out of order, what it hands on is settled
  leaves_same : (s : DrawOff) (d : Event) (s' t' : DrawOff) → EventLeaves m s d s' → EventLeaves m s d t' → ¬ (d.mixing ≡ mixed unsorted) → s' ≡ t'
  leaves_same s d s' t' p q n =
      draw_off_eq s' t' (go d.mixing refl) (totals_eq _ _ _ _ _ _ _ _ (p.energy ∙ sym q.energy) (p.used ∙ sym q.used) (p.weighted ∙ sym q.weighted) (p.drawn ∙ sym q.drawn))
    where
      go : (x : EventMixing) → d.mixing ≡ x → s'.temps ≡ t'.temps
      go unmixed e = p.temps_unmixed e ∙ sym (q.temps_unmixed e)
      go (mixed (sorted after k)) e = p.temps_mixed after k e ∙ sym (q.temps_mixed after k e)
      go (mixed unsorted) e = absurd (n e)

  event_number_lem : (d : Event) (s t : DrawOff) (n j : ℕ) → (¬ (d.mixing ≡ mixed unsorted) → s ≡ t) → EventDraws m d s n → EventDraws m d t j → (n ≡ j) × (n ≡ 0 → s ≡ t)
  event_number_lem d s t n j f (inl x) (inl y) = (x.1 ∙ sym y.1, λ z. absurd (omega (arith, x.1, z)))
  event_number_lem d s t n j f (inl x) (inr y) = absurd (y.0 x.0)
  event_number_lem d s t n j f (inr x) (inl y) = absurd (x.0 y.0)
  event_number_lem d s t n j f (inr x) (inr y) =
      let e = f x.0 in
      (first_once ((10, EventNotFinite m t) ∷ []) n j (subst (λ (z : DrawOff). FirstOf ((10, EventNotFinite m z) ∷ []) n) e x.1) y.1, λ z. e)

  event_once : (v : Float) (s : DrawOff) (d e : Event) (s' t' : DrawOff) (n j : ℕ) → EventPart m a v s d s' → EventPart m a v s e t' → EventDraws m d s' n → EventDraws m e t' j → (d ≡ e) × (n ≡ j) × (n ≡ 0 → s' ≡ t')
  event_once v s d e s' t' n j p q x y =
      let o = event_same v s d e p.0 q.0 in
      let z = sym o in
      let r = event_number_lem d s' t' n j (leaves_same s d s' t' p.1 (subst (λ (i : Event). EventLeaves m s i t') z q.1)) x (subst (λ (i : Event). EventDraws m i t' j) z y) in
      (o, r.0, r.1)

  -- ---- the average

  averages_once : (s : DrawOff) (x y : Float) → Averages m s x → Averages m s y → x ≡ y
  averages_once s x y p q = go (wide_close s.totals.drawn zero_f) refl
    where
      go : (b : Bool) → wide_close s.totals.drawn zero_f ≡ b → x ≡ y
      go true z = p.none_drawn (rw z tt) ∙ sym (q.none_drawn (rw z tt))
      go false z = p.some_drawn (λ c. rw z at c) ∙ sym (q.some_drawn (λ c. rw z at c))

  -- ---- the turns

  module _ (fs : List Bool) where
    -- two turns of one heater, from one place, up to their mixings
    module _ (h : ℕ) (s : Heating) (u v : Turn) (p : TurnOf m a fs h s u) (q : TurnOf m a fs h s v) where
      same_points : u.points ≡ v.points
      same_points = p.points ∙ sym q.points

      same_start : u.start ≡ v.start
      same_start = p.start ∙ sym q.start

      same_ran : u.turned.ran ≡ v.turned.ran
      same_ran = same_test u.turned.ran v.turned.ran p.ran (rw (same_points, same_start) q.ran)

      same_mixing : u.turned.mixing ≡ v.turned.mixing
      same_mixing = mixing_once m.layers (volumes_of m) _ u.turned.mixing v.turned.mixing p.mixing (rw same_ran q.mixing)

      same_figures : (after : List Float) (k : ℕ) → FiguresOf m h s u after × (u.turned.rounds ≡ k) → FiguresOf m h s v after × (v.turned.rounds ≡ k) → u ≡ v
      same_figures after k i j =
          turn_eq u v (p.heater ∙ sym q.heater) same_points (p.before ∙ sym q.before) same_start
          (turned_eq u.turned v.turned same_ran same_mixing temps (rw (f.charged, g.charged, same_points)) flag adjusts supplies (rw (f.losses, g.losses, same_points)) (i.1 ∙ sym j.1))
          finish
        where
          f : FiguresOf m h s u after
          f = i.0

          g : FiguresOf m h s v after
          g = j.0

          temps : u.turned.temps ≡ v.turned.temps
          temps = rw (f.temps, g.temps, same_points)

          finish : u.finish ≡ v.finish
          finish = rw (p.finish, q.finish, temps)

          flag : u.turned.flag ≡ v.turned.flag
          flag = same_test u.turned.flag v.turned.flag f.flag (rw (same_points, finish, same_ran) g.flag)

          adjusts_by : (b : Bool) → lt zero_f (input_of m h v) ≡ b → u.turned.adjusted ≡ v.turned.adjusted
          adjusts_by true z = rw (f.some_input (rw (same_ran, z) tt), g.some_input (rw z tt), same_ran, same_points)
          adjusts_by false z = f.no_input (λ c. rw (same_ran, z) at c) ∙ sym (g.no_input (λ c. rw z at c))

          adjusts : u.turned.adjusted ≡ v.turned.adjusted
          adjusts = adjusts_by (lt zero_f (input_of m h v)) refl

          supplies_by : (b : Bool) → wide_close v.turned.adjusted zero_f ≡ b → u.turned.supplied ≡ v.turned.supplied
          supplies_by true z = f.none_asked (rw (adjusts, z) tt) ∙ sym (g.none_asked (rw z tt))
          supplies_by false z = rw (f.some_asked (λ c. rw (adjusts, z) at c), g.some_asked (λ c. rw z at c), adjusts)

          supplies : u.turned.supplied ≡ v.turned.supplied
          supplies = supplies_by (wide_close v.turned.adjusted zero_f) refl

      turns_alike : AlikeTurns u v
      turns_alike = record {
        heater = p.heater ∙ sym q.heater;
        points = same_points;
        before = p.before ∙ sym q.before;
        start = same_start;
        ran = same_ran;
        mixing = same_mixing;
        whole = go u.turned.mixing refl;
      }
        where
          go : (x : Mixing) → u.turned.mixing ≡ x → T (passed x) → u ≡ v
          go (sorted after k) e t = same_figures after k (subst (AfterMixing m h s u) e p.after_mixing) (subst (AfterMixing m h s v) (sym same_mixing ∙ e) q.after_mixing)
          go unsorted e t = absurd t

    leaves_once : (s : Heating) (u : Turn) (s' t' : Heating) → TurnLeaves s u s' → TurnLeaves s u t' → s' ≡ t'
    leaves_once s u s' t' p q =
        heating_eq s' t' (p.temps ∙ sym q.temps) (p.charged ∙ sym q.charged) (p.flags ∙ sym q.flags) (p.losses ∙ sym q.losses)
        (p.lines.2 ∙ ap (λ (x : HeaterLine). set s.lines u.heater x) line ∙ sym q.lines.2)
      where
        f : LineTells u p.lines.0
        f = p.lines.1

        g : LineTells u q.lines.0
        g = q.lines.1

        line : p.lines.0 ≡ q.lines.0
        line = line_eq p.lines.0 q.lines.0 (f.flag ∙ sym g.flag) (f.adjusted ∙ sym g.adjusted) (f.supplied ∙ sym g.supplied) (f.losses ∙ sym g.losses) (f.rounds ∙ sym g.rounds)

    turn_once : (h : ℕ) (s : Heating) (u v : Turn) (s' t' : Heating) (n j : ℕ) → TurnPart m a fs h s u s' → TurnPart m a fs h s v t' → TurnDraws m u n → TurnDraws m v j → AlikeTurns u v × (n ≡ j) × (n ≡ 0 → s' ≡ t')
    turn_once h s u v s' t' n j p q x y = let r = go u.turned.mixing refl in (alike, r.0, r.1)
      where
        alike : AlikeTurns u v
        alike = turns_alike h s u v p.0 q.0

        go : (i : Mixing) → u.turned.mixing ≡ i → (n ≡ j) × (n ≡ 0 → s' ≡ t')
        go unsorted e = let z = nine_drawn n e x in (z ∙ sym (nine_drawn j (sym alike.mixing ∙ e) y), λ o. absurd (omega (arith, z, o)))
        go (sorted after k) e =
            let z = sym (alike.whole (rw e tt)) in (
              first_once ((9, u.turned.mixing ≡ unsorted) ∷ (10, TurnNotFinite m u) ∷ []) n j x (subst (λ (i : Turn). TurnDraws m i j) z y),
              λ o. leaves_once s u s' t' p.1 (subst (λ (i : Turn). TurnLeaves s i t') z q.1),
            )

    closes_once : (d e : End Outcome) (c : DrawOff) (x : Float) (s : Heating) → Closes d c x s → Closes e c x s → d ≡ e
    closes_once d e c x s (inl p) (inl q) = p.1 ∙ sym q.1
    closes_once d e c x s (inl p) (inr q) = absurd (q.0 p.0)
    closes_once d e c x s (inr p) (inl q) = absurd (p.0 q.0)
    closes_once d e c x s (inr p) (inr q) = p.1 ∙ sym q.1

    turns_once : (c : DrawOff) (x : Float) (s : Heating) (us vs : List Turn) (d e : End Outcome) → Turns m a fs c x s us d → Turns m a fs c x s vs e → Pairwise AlikeTurns us vs × (d ≡ e)
    turns_once c x s us vs d e p q =
        let r = sequence_once (TurnPart m a fs) (λ (u : Turn) (y : Heating). TurnDraws m u) AlikeTurns turn_once (Closes d c x) (Closes e c x) (λ (n : ℕ). d ≡ refused n) (λ (n : ℕ). e ≡ refused n) (working_order (fixed_of m)) us vs s p q in
        (r.0, ⊎_elim (λ y. closes_once d e c x y.0 y.1 y.2) (λ y. y.1 ∙ sym y.2) r.1)

  -- ---- the step

  turns_open_once : (st : State) (d : DrawOff) (s t : Heating) → TurnsOpen st d s → TurnsOpen st d t → s ≡ t
  turns_open_once st d s t p q = heating_eq s t (p.temps ∙ sym q.temps) (p.charged ∙ sym q.charged) (p.flags ∙ sym q.flags) (p.losses ∙ sym q.losses) (p.lines ∙ sym q.lines)

  then_once : (st : State) (d : DrawOff) (w x : Work) → w.events ≡ x.events → ThenTurns m st a w d → ThenTurns m st a x d → AlikeWorks w x
  then_once st d w x e p q =
      let y = averages_once d p.0 q.0 p.1 q.1 in
      let s = turns_open_once st d p.2.0 q.2.0 p.2.1 q.2.1 in
      let o = turns_once st.flags d q.0 q.2.0 w.turns x.turns w.end x.end (rw (y, s) at p.2.2) q.2.2 in
      record { end = o.1; events = e; turns = o.0 }

  worked_once : (st : State) (s : DrawOff) (w x : Work) → EventsThenTurns m st a w s → EventsThenTurns m st a x s → AlikeWorks w x
  worked_once st s w x p q =
      let r = sequence_once (EventPart m a) (EventDraws m) (λ (d e : Event). d ≡ e) event_once (ThenTurns m st a w) (ThenTurns m st a x) (Stopped w) (Stopped x) (tabulate (event_volume a) a.events 0) w.events x.events s p q in
      let e = pairwise_equal w.events x.events r.0 in
      ⊎_elim (λ y. then_once st y.0 w x e y.1 y.2) (λ y. record { end = y.1.0 ∙ sym y.2.0; events = e; turns = rw (y.1.1, y.2.1) tt }) r.1
    where
      Stopped : Work → ℕ → Type 0
      Stopped y n = (y.end ≡ refused n) × (y.turns ≡ [])

  number_once : (st : State) (n k : ℕ) → StepRefusal m st a n → StepRefusal m st a k → n ≡ k
  number_once st n k p q = first_once (tank_sentences m (LayerNotFinite m st.temps) ++ step_sentences m a) n k p q

  pub course_once : (st : State) (w x : Work) → Course m st a w → Course m st a x → AlikeWorks w x
  course_once st w x (inl p) (inl q) =
      let z = number_once st p.0 q.0 p.2 q.2 in
      record { end = p.3 ∙ ap refused z ∙ sym q.3; events = p.4 ∙ sym q.4; turns = rw (p.5, q.5) tt }
  course_once st w x (inl p) (inr q) = let z = number_once st p.0 0 p.2 q.0 in absurd (omega (arith, z, p.1))
  course_once st w x (inr p) (inl q) = let z = number_once st 0 q.0 p.0 q.2 in absurd (omega (arith, z, q.1))
  course_once st w x (inr p) (inr q) =
      let o = p.1.1 in
      let o' = q.1.1 in
      let e = draw_off_eq p.1.0 q.1.0 (o.temps ∙ sym o'.temps) (o.totals ∙ sym o'.totals) in
      worked_once st p.1.0 w x p.1.2 (subst (EventsThenTurns m st a x) (sym e) q.1.2)
