-- Proves how the loop over a step's turns works out the run of the turns (01, Step; Turn): one turn more, or the turn that ends the step.
use Rattle.std.proofs.Common.{◌≡◌, refl, sym, ap, ◌∙◌, List, [], ◌∷◌, ℕ, zero, suc, ◌+◌, ◌<◌, ◌≤◌, arith, get_or, length, drop, drop_of_length-le, drop-cons, add-one, Float}
use Rattle.cylinder.specs.declared.Cylinder.{Cylinder}
use Rattle.set_points.specs.declared.SetPoints.{SetPoints}
use Rattle.immersion_heater.specs.Turn.{turn_number}
use Rattle.tank_model.specs.declared.Heater.{Heater}
use Rattle.tank_model.specs.declared.TurnNotes.{TurnNotes}
use Rattle.tank_model.specs.Fixed.{Placed, immersed, no_heater}
use Rattle.tank_model.specs.Run.{end_by, Run, first, run}
use Rattle.tank_model.specs.Work.{Heating, Turn, turn_of, after_turn, work_turn}
use Rattle.tank_model.proofs.Order.{placed_at}
use Rattle.heater_turns.specs.Notes.{with_turn, with_turns}
use Rattle.heater_turns.specs.Lent.{immersion, fixed_lent, points_in, turn_from, TurnWorked, TurnsEnd, turns_by}

-- ---- a run's first part: it goes on, or ends there

module _ (x : TurnNotes) (u : Turn) (r : Run Turn Heating) where
  first_on : (m : ℕ) → m ≡ 0 → turns_by x (first u m r) ≡ turns_by (with_turn u x) r
  unfolding first with_turns
  first_on m e = rw e

  first_off : (m : ℕ) (s : Heating) → (m ≡ 0 → ⊥) → turns_by x (first u m r) ≡ record { end = end_by m s; notes = with_turn u x }
  unfolding first end_by with_turns
  first_off zero s e = absurd (e refl)
  first_off (suc m) s e = refl

-- each turn is counted
pub turns_counted : (us : List Turn) (x : TurnNotes) → (with_turns us x).worked ≡ x.worked + length us
unfolding with_turns
turns_counted [] x = omega arith
turns_counted (u ∷ us) x = let e = turns_counted us (with_turn u x) in omega arith

module _ (c : Cylinder) (vol : List Float) (n : ℕ) (fitted : List Heater) (settings : List SetPoints) where
  -- the turn of the heater given as h
  abbrev pub turn_at : ℕ → Heating → Turn
  turn_at h s = turn_from c vol (immersion c.layers (get_or fitted h no_heater)) h (points_in settings h) s

  turned_is : (h : ℕ) (s : Heating) → h < n → turn_of (fixed_lent c vol n fitted) (points_in settings) h s ≡ turn_at h s
  unfolding turn_of
  turned_is h s l = ap (λ (y : Placed). turn_from c vol (immersed c.layers y) h (points_in settings h) s) (placed_at n fitted h l)

  -- where the turns of the heaters hs end, after turns that noted x
  abbrev pub turns_from : List ℕ → Heating → TurnNotes → TurnsEnd
  turns_from hs s x = turns_by x (run (work_turn (fixed_lent c vol n fitted) (points_in settings)) hs s)

  module _ (h : ℕ) (hs : List ℕ) (s : Heating) (x : TurnNotes) (m : ℕ) (s' : Heating) (x' : TurnNotes) (l : h < n) (w : TurnWorked c (turn_at h s) s x m s' x') where
    -- the turn as the definition has it, and then the run of the others
    abbrev begun : Turn → TurnsEnd
    begun u = turns_by x (first u (turn_number c u.turned) (run (work_turn (fixed_lent c vol n fitted) (points_in settings)) hs (after_turn h u.turned s)))

    begins : turns_from (h ∷ hs) s x ≡ begun (turn_at h s)
    unfolding run work_turn
    begins = ap begun (turned_is h s l)

    turn_on : m ≡ 0 → turns_from (h ∷ hs) s x ≡ turns_from hs s' x'
    turn_on z = begins ∙ first_on x _ _ _ (sym w.number_is ∙ z) ∙ rw (w.leaves, w.notes)

    turn_off : (m ≡ 0 → ⊥) → turns_from (h ∷ hs) s x ≡ record { end = end_by m s'; notes = x' }
    turn_off z = begins ∙ first_off x _ _ _ s' (λ q. z (w.number_is ∙ q)) ∙ rw (w.number_is, w.notes)

  -- ---- the loop over `order`, which has come to k, and whose turns began at s0: those left, from here, end as the whole does

  pub record TurnsSoFar (order : List ℕ) (s0 : Heating) (x0 : TurnNotes) (k : ℕ) (s : Heating) (x : TurnNotes) : Type 0 where
    pub counted : x.worked ≡ k
    pub ends : turns_from (drop k order) s x ≡ turns_from order s0 x0

  module _ (order : List ℕ) (s0 : Heating) (x0 : TurnNotes) where
    module _ (k : ℕ) (s : Heating) (x : TurnNotes) (far : TurnsSoFar order s0 x0 k s x) where
      pub all_worked : length order ≤ k → turns_from order s0 x0 ≡ record { end = end_by 0 s; notes = x }
      unfolding run end_by with_turns
      all_worked l = sym far.ends ∙ ap (λ (hs : List ℕ). turns_from hs s x) (drop_of_length-le order l)

      module _ (l : k < length order) (h : get_or order k 0 < n) (m : ℕ) (s' : Heating) (x' : TurnNotes) (w : TurnWorked c (turn_at (get_or order k 0) s) s x m s' x') where
        next : turns_from (get_or order k 0 ∷ drop (suc k) order) s x ≡ turns_from order s0 x0
        next = sym (ap (λ (hs : List ℕ). turns_from hs s x) (drop-cons order k 0 l)) ∙ far.ends

        pub one_worked : m ≡ 0 → TurnsSoFar order s0 x0 (k + 1) s' x'
        one_worked z = record {
          counted = ap (λ (y : TurnNotes). y.worked) w.notes ∙ ap (λ (i : ℕ). i + 1) far.counted;
          ends = rw add-one (sym (turn_on (get_or order k 0) (drop (suc k) order) s x m s' x' h w z) ∙ next);
        }

        pub last_worked : (m ≡ 0 → ⊥) → turns_from order s0 x0 ≡ record { end = end_by m s'; notes = x' }
        last_worked z = sym next ∙ turn_off (get_or order k 0) (drop (suc k) order) s x m s' x' h w z
