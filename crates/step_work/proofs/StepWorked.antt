-- Proves how the parts of a step's code work out its answer (01, Step): the checks, the events, the turns, and what the end looks at, each of which may refuse it.
use Rattle.std.proofs.Common.{replicate, subst, ◌≡◌, refl, sym, ap, ◌∙◌, ℕ, zero, suc, ◌-◌, ◌≤◌, Bool, true, false, List, [], ◌∷◌, get_or, length, take, Float}
use Rattle.std.specs.Prelude.{cond, ◌&&◌, Result, Ok, Err}
use Rattle.std.specs.List.{list_all}
use Rattle.std.specs.Float.{nan}
use Rattle.std.specs.Float.Ieee.Scale.{finite}
use Rattle.refusals.specs.declared.Refusal.{Refusal}
use Rattle.refusals.specs.declared.Refusal.TheVariants.{NotFinite}
use Rattle.refusals.specs.Refusals.{number_of, number_in}
use Rattle.refusals.proofs.Numbers.{number-not_0}
use Rattle.numeric.specs.Double.{◌⊛◌, ◌⊘◌, zero_f, three_quarters}
use Rattle.numeric.specs.Close.{wide_close}
use Rattle.cylinder.specs.declared.Cylinder.{Cylinder}
use Rattle.draw_off.specs.declared.cold.Feed.{Feed}
use Rattle.draw_events.specs.declared.Totals.{Totals}
use Rattle.draw_events.specs.Lent.{drawing_of}
use Rattle.draw_events.specs.Event.{no_totals, Event, Drawing, event_of, temps_after_event, totals_after_event, event_number, draw_all}
use Rattle.draw_events.proofs.FirstVolumes.{first_taken}
use Rattle.working_order.specs.Order.{max_heaters}
use Rattle.tank_model.specs.declared.Step.{Step}
use Rattle.tank_model.specs.declared.TurnNotes.{TurnNotes}
use Rattle.tank_model.specs.Fixed.{Fixed, State}
use Rattle.tank_model.specs.Order.{working_order}
use Rattle.tank_model.specs.Checks.{points_of, step_refusal}
use Rattle.tank_model.specs.Run.{End, refused, done, end_by, Run, first, run}
use Rattle.tank_model.specs.Work.{zero_line, DrawOff, Outcome, work_event, feed_in, wanted_volumes, events, average_of, Heating, Turn, unheated, turns, recoverable, close, then_turns, begin, Work, work}
use Rattle.heater_turns.specs.declared.TurnState.{TurnState}
use Rattle.heater_turns.specs.Notes.{with_turns}
use Rattle.heater_turns.specs.Lent.{unheated as fresh, uncounted, heating_in, TurnsEnd, turns_by, TurnsWorked}
use Rattle.step_work.specs.Lent.{state_of, StepWorked}

-- of two numbers each is finite
pub both_finite : (x y : Float) → (finite x && finite y) ≡ list_all finite (x ∷ y ∷ [])
both_finite x y = ap (λ (b : Bool). finite x && b) (go (finite y))
  where
    go : (b : Bool) → b ≡ (b && true)
    go true = refl
    go false = refl

-- ---- the events in a row, as `draw_events` works them, are the run of the events

-- where they came to
abbrev pub drawn_at : Drawing → DrawOff
drawn_at d = record { temps = d.temps; totals = d.totals }

pub events_run : (f : Fixed) (feed : Feed) (vs : List Float) (s : DrawOff)
    → let d = draw_all f.cylinder f.vol feed vs 0 s.temps s.totals in
    (run (work_event f feed) vs s).end ≡ end_by d.number (drawn_at d)
unfolding run work_event draw_all
events_run f feed [] s = unfold end_by in refl
events_run f feed (v ∷ vs) s = go (event_number f.cylinder e s.totals) (events_run f feed vs s')
  where
    e : Event
    e = event_of f.cylinder f.vol feed v s.temps s.totals

    s' : DrawOff
    s' = record { temps = temps_after_event e; totals = totals_after_event f.cylinder e s.totals }

    rest : ℕ → Drawing
    rest n = draw_all f.cylinder f.vol feed vs n s'.temps s'.totals

    stopped : (xs : List Float) (n : ℕ) → (draw_all f.cylinder f.vol feed xs (suc n) s'.temps s'.totals).number ≡ suc n
    stopped [] n = unfold draw_all in refl
    stopped (x ∷ xs) n = unfold draw_all in refl

    go : (n : ℕ) → (run (work_event f feed) vs s').end ≡ end_by (rest 0).number (drawn_at (rest 0)) → (first e n (run (work_event f feed) vs s')).end ≡ end_by (rest n).number (drawn_at (rest n))
    go zero q = unfold first in q
    go (suc n) q = unfold first in (rw (stopped vs n) (unfold end_by in refl))

-- ---- the step

module _ (f : Fixed) (st : State) (a : Step) (x0 : TurnNotes) where
  abbrev c : Cylinder
  c = f.cylinder

  -- a step's turns, and where it ended
  abbrev seen : Work → Run Turn Outcome
  seen w = record { parts = w.turns; end = w.end }

  -- a refused step, by its number and by the turns that it had
  refused_after : (r : Refusal) (us : List Turn) (x : TurnNotes) → x ≡ with_turns us (uncounted x0) → seen (work f st a) ≡ record { parts = us; end = refused (number_of r) } → StepWorked f st a (Err r) st x0 x
  refused_after r us x y s = record {
    ends = (ap (λ (z : Run Turn Outcome). z.end) s, refl);
    noted = y ∙ sym (ap (λ (z : Run Turn Outcome). with_turns z.parts (uncounted x0)) s);
  }

  refused_before : (r : Refusal) → seen (work f st a) ≡ record { parts = []; end = refused (number_of r) } → StepWorked f st a (Err r) st x0 (uncounted x0)
  unfolding with_turns
  refused_before r s = refused_after r [] (uncounted x0) refl s

  step_refused : (k : ℕ) → k ≡ step_refusal f st a → (k ≡ 0 → ⊥) → seen (work f st a) ≡ record { parts = []; end = refused k }
  unfolding work begin
  step_refused zero e n = absurd (n refl)
  step_refused (suc k) e n = rw (← e)

  -- the checks refuse it
  pub checks_refuse : (r : Refusal) → number_of r ≡ step_refusal f st a → StepWorked f st a (Err r) st x0 (uncounted x0)
  checks_refuse r e = refused_before r (step_refused (number_of r) e (number-not_0 r))

  -- what stands where the events begin: the checks have passed, g is the tank, and t0, what has been drawn, is nothing
  pub record Begun (g : Fixed) (t0 : Totals) : Type 0 where
    pub passed : step_refusal f st a ≡ 0
    pub tank_is : g ≡ f
    pub no_lines : x0.lines ≡ replicate max_heaters zero_line
    pub long : a.events ≤ length a.volumes
    pub none_drawn : t0 ≡ no_totals

  module _ (g : Fixed) (t0 : Totals) (b : Begun g t0) where
    -- the state on which the step is worked
    abbrev s0 : TurnState
    s0 = fresh st.temps st.flags

    -- the work, from where the events ended
    abbrev after : End DrawOff → Run Turn Outcome
    after e = seen (then_turns f st a [] e)

    end_only : (es : List Event) (e : End DrawOff) → seen (then_turns f st a es e) ≡ after e
    unfolding then_turns
    end_only es (refused n) = refl
    end_only es (done s) = refl

    -- `temps` are the layers that the events leave, d what they answer, t what they have drawn
    module _ (temps : List Float) (d : Result (Unit {0}) Refusal) (t : Totals)
        (drawn : drawing_of temps d t ≡ draw_all g.cylinder g.vol (feed_in a) (take a.events a.volumes) 0 s0.layers.temps t0) where
      -- the state after the events, which charge no layer
      abbrev pub drawn_state : List Float → TurnState
      drawn_state left = record { layers = record { temps = left; charged = s0.layers.charged }; flags = s0.flags; losses = s0.losses }

      abbrev drawn_off : DrawOff
      drawn_off = record { temps = temps; totals = t }

      drawn_is : drawing_of temps d t ≡ draw_all c f.vol (feed_in a) (wanted_volumes a) 0 st.temps no_totals
      drawn_is = rw (b.tank_is, b.none_drawn, first_taken a.volumes a.events b.long) at drawn

      end_is : seen (work f st a) ≡ after (end_by (number_in d) drawn_off)
      unfolding work begin events
      end_is =
          rw b.passed
          (end_only _ _
          ∙ ap after (events_run f (feed_in a) (wanted_volumes a) (record { temps = st.temps; totals = no_totals }) ∙ ap (λ (y : Drawing). end_by y.number (drawn_at y)) (sym drawn_is)))

      -- an event refuses it
      pub events_refuse : (r : Refusal) → d ≡ Err r → StepWorked f st a (Err r) st x0 (uncounted x0)
      events_refuse r e = refused_before r (end_is ∙ ap (λ (z : Result (Unit {0}) Refusal). after (end_by (number_in z) drawn_off)) e ∙ go (number_of r) (number-not_0 r))
        where
          go : (k : ℕ) → (k ≡ 0 → ⊥) → after (end_by k drawn_off) ≡ record { parts = []; end = refused k }
          go zero n = absurd (n refl)
          go (suc k) n = unfold end_by then_turns in refl

      -- the turns from there come to s and answer h, and note x
      module _ (accepted : d ≡ Ok tt) (average : Float) (averaged : average ≡ cond (wide_close t.drawn zero_f) (get_or temps (c.layers - 1) nan) (t.weighted ⊘ t.drawn))
          (h : Result (Unit {0}) Refusal) (s : TurnState) (x : TurnNotes)
          (heated : TurnsWorked g a.settings (working_order g) (heating_in (drawn_state temps) (uncounted x0)) (uncounted x0) (number_in h) (heating_in s x) x) where
        -- what the turns came to
        abbrev left : Heating
        left = heating_in s x

        heated_is : TurnsWorked f a.settings (working_order f) (unheated temps st.flags) (uncounted x0) (number_in h) left x
        heated_is =
            subst (λ (y : Heating). TurnsWorked f a.settings (working_order f) y (uncounted x0) (number_in h) left x) opened (rw b.tank_is at heated)
          where
            opened : heating_in (drawn_state temps) (uncounted x0) ≡ unheated temps st.flags
            opened = rw b.no_lines

        abbrev turned : Run Turn Heating
        turned = turns f (points_of a) temps st.flags

        abbrev parts : List Turn
        parts = turned.parts

        turns_are : turns_by (uncounted x0) turned ≡ record { end = end_by (number_in h) left; notes = x }
        unfolding turns
        turns_are = heated_is

        noted : x ≡ with_turns parts (uncounted x0)
        noted = sym (ap (λ (y : TurnsEnd). y.notes) turns_are)

        turns_end : seen (work f st a) ≡ record { parts = parts; end = close drawn_off average (end_by (number_in h) left) }
        unfolding then_turns end_by average_of
        turns_end =
            end_is
            ∙ rw (accepted, ← averaged) (ap (λ (e : End Heating). record { parts = parts; end = close drawn_off average e }) (ap (λ (y : TurnsEnd). y.end) turns_are))

        -- a turn refuses it
        pub turns_refuse : (r : Refusal) → h ≡ Err r → StepWorked f st a (Err r) st x0 x
        turns_refuse r e = refused_after r parts x noted (turns_end ∙ ap (λ (y : End Outcome). record { parts = parts; end = y }) (ap (λ (z : Result (Unit {0}) Refusal). close drawn_off average (end_by (number_in z) left)) e ∙ go (number_of r) (number-not_0 r)))
          where
            go : (k : ℕ) → (k ≡ 0 → ⊥) → close drawn_off average (end_by k left) ≡ refused k
            go zero n = absurd (n refl)
            go (suc k) n = unfold end_by close in refl

        module _ (finished : h ≡ Ok tt) where
          abbrev pub is_finite : Bool
          is_finite = finite average && finite (s.losses ⊛ three_quarters)

          -- what the step came to
          abbrev outcome : Outcome
          outcome = record { drawn = drawn_off; average = average; heated = left }

          closed_is : seen (work f st a) ≡ record { parts = parts; end = end_by (cond is_finite 0 10) outcome }
          unfolding close recoverable
          closed_is = turns_end ∙ rw finished (unfold end_by in refl)

          -- its end refuses it
          pub end_refuses : is_finite ≡ false → StepWorked f st a (Err NotFinite) st x0 x
          unfolding end_by
          end_refuses q = refused_after NotFinite parts x noted (closed_is ∙ rw q)

          -- it is accepted
          pub end_accepts : is_finite ≡ true
              → StepWorked f st a (Ok (record { totals = t; average = average; recoverable = s.losses ⊛ three_quarters })) (state_of s.layers.temps s.flags) x0 x
          unfolding end_by recoverable
          end_accepts e = record {
            ends = (outcome, ap (λ (r : Run Turn Outcome). r.end) closed_is ∙ rw e, record { temps_are = refl; totals_are = refl; average_is = refl; flags_are = refl; lines_are = refl; recoverable_is = refl });
            noted = noted ∙ sym (ap (λ (r : Run Turn Outcome). with_turns r.parts (uncounted x0)) closed_is);
          }
