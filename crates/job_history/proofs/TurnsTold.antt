-- Proves that what a step's turns noted tells each of them (01, Turn; Step): no heater has two turns in a step, so what a turn noted stands to the end.
use mathlib.Core.Path.{◌≡◌, refl, sym, ap, ◌∙◌}
use mathlib.Core.Logic.{◌≢◌}
use mathlib.Core.List.{List, [], ◌∷◌, map}
use Prim.Native.Nat.{ℕ, zero, suc, ◌+◌, ◌≤◌, ◌<◌}
use native.Mathlib.Nat.{le_of_suc-le-suc, not-suc-le-zero}
use native.Mathlib.Omega.{arith}
use lib.ListN.{length, get_or, set, take, length-set, length-replicate, length-map, get_or-map}
use lib.Seq.{get_or-set_same, get_or-set_other}
use Rattle.numeric.specs.Copy.{copied, copied_next}
use Rattle.draw_events.specs.Event.{Event}
use Rattle.immersion_heater.specs.Turn.{turn_number}
use Rattle.set_points.specs.declared.SetPoints.{SetPoints}
use Rattle.working_order.specs.Order.{max_heaters}
use Rattle.working_order.proofs.Entries.{rising_length}
use Rattle.tank_model.specs.declared.TurnNotes.{TurnNotes}
use Rattle.tank_model.specs.declared.Step.{Step}
use Rattle.tank_model.specs.Fixed.{Fixed, State, heater_of}
use Rattle.tank_model.specs.Order.{working_order}
use Rattle.tank_model.specs.Checks.{points_of, step_refusal}
use Rattle.tank_model.specs.Members.{All, Distinct}
use Rattle.tank_model.specs.Run.{End, refused, done, Run, first, run}
use Rattle.tank_model.specs.Work.{DrawOff, Heating, zero_line, unheated, Turn, turn_of, after_turn, work_turn, turns, then_turns, begin, work}
use Rattle.tank_model.proofs.Members.{all_map, all_both}
use Rattle.tank_model.proofs.Order.{many_placed, order_below, order_once}
use Rattle.tank_refusals.proofs.FirstRefusal.{step_counts}
use Rattle.heater_turns.specs.Notes.{no_course, no_notes, with_turn, with_turns}
use Rattle.storage_tank.specs.declared.StorageTank.{StorageTank}
use Rattle.storage_tank.specs.Tank.{fixed_in, state_in}
use Rattle.storage_tank.specs.Answers.{work_of}
use Rattle.job_history.specs.declared.TurnFact.{TurnFact}
use Rattle.job_history.specs.declared.Turns.{Turns}
use Rattle.job_history.specs.Facts.{fact_of, facts_of, step_turns, no_fact, no_facts, turns_of}
use Rattle.job_history.specs.Lent.{fact_in, facts_in, NotedTurns}

-- notes with a place for each heater
pub record Long (x : TurnNotes) : Type 0 where
  pub lines_long : length x.lines ≡ max_heaters
  pub courses_long : length x.courses ≡ max_heaters

pub none_long : Long no_notes
none_long = record { lines_long = length-replicate max_heaters zero_line; courses_long = length-replicate max_heaters no_course }

turn_long : (u : Turn) (x : TurnNotes) → Long x → Long (with_turn u x)
turn_long u x l = record {
  lines_long = length-set x.lines u.heater _ ∙ l.lines_long;
  courses_long = length-set x.courses u.heater _ ∙ l.courses_long;
}

order_many : (f : Fixed) → length (working_order f) ≡ length f.heaters
unfolding working_order
order_many f = rising_length (λ (h : ℕ). (heater_of f h).position) (length f.heaters)

module _ (f : Fixed) (a : Step) where
  abbrev told : TurnNotes → ℕ → TurnFact
  told x h = fact_in a.settings x h

  -- another heater's turn leaves what is told of h
  kept : (u : Turn) (x : TurnNotes) (h : ℕ) → h < max_heaters → u.heater < max_heaters → u.heater ≢ h → told (with_turn u x) h ≡ told x h
  kept u x h l m n =
      rw (get_or-set_other x.lines u.heater h _ zero_line (λ e. n (sym e)), get_or-set_other x.courses u.heater h _ no_course (λ e. n (sym e)))

  all_kept : (us : List Turn) (x : TurnNotes) (h : ℕ) → h < max_heaters → All (λ (u : Turn). (u.heater < max_heaters) × (u.heater ≢ h)) us → told (with_turns us x) h ≡ told x h
  unfolding with_turns
  all_kept [] x h l q = refl
  all_kept (u ∷ us) x h l q = all_kept us (with_turn u x) h l q.1 ∙ kept u x h l q.0.0 q.0.1

  -- a turn's own notes tell it
  own : (h : ℕ) (s : Heating) (x : TurnNotes) → Long x → h < max_heaters → told (with_turn (turn_of f (points_of a) h s) x) h ≡ fact_of (turn_of f (points_of a) h s)
  unfolding turn_of
  own h s x l m =
      let lines = l.lines_long in
      let courses = l.courses_long in
      rw (get_or-set_same x.lines h _ zero_line (omega arith), get_or-set_same x.courses h _ no_course (omega arith))

  abbrev run_of : List ℕ → Heating → Run Turn Heating
  run_of hs s = run (work_turn f (points_of a)) hs s

  -- what holds of each heater holds of each turn's
  of_parts : (Q : ℕ → Type 0) (hs : List ℕ) (s : Heating) → All Q hs → All (λ (u : Turn). Q u.heater) (run_of hs s).parts
  unfolding run work_turn
  of_parts Q [] s q = tt
  of_parts Q (h ∷ hs) s q = go (turn_number f.cylinder u.turned) (of_parts Q hs (after_turn h u.turned s) q.1)
    where
      u : Turn
      u = turn_of f (points_of a) h s

      go : (n : ℕ) → All (λ (v : Turn). Q v.heater) (run_of hs (after_turn h u.turned s)).parts → All (λ (v : Turn). Q v.heater) (first u n (run_of hs (after_turn h u.turned s))).parts
      go zero r = unfold first turn_of in (q.0, r)
      go (suc n) r = unfold first turn_of in (q.0, tt)

  pub turns_told : (hs : List ℕ) (s : Heating) (x : TurnNotes) → Long x → Distinct hs → All (λ (h : ℕ). h < max_heaters) hs
      → let us = (run_of hs s).parts in facts_of us ≡ facts_in a.settings (with_turns us x) (length us) hs
  unfolding run work_turn facts_of
  turns_told [] s x l d b = refl
  turns_told (h ∷ hs) s x l d b =
      go (turn_number f.cylinder u.turned) (turns_told hs s' (with_turn u x) (turn_long u x l) d.1 b.1)
    where
      u : Turn
      u = turn_of f (points_of a) h s

      s' : Heating
      s' = after_turn h u.turned s

      us : List Turn
      us = (run_of hs s').parts

      this : told (with_turn u x) h ≡ fact_of u
      this = own h s x l b.0

      first_told : told (with_turns us (with_turn u x)) h ≡ fact_of u
      first_told =
          all_kept us (with_turn u x) h b.0
          (of_parts (λ (g : ℕ). (g < max_heaters) × (g ≢ h)) hs s' (all_map _ _ (λ g p. (p.0, λ e. p.1 (sym e))) hs (all_both (λ (g : ℕ). g < max_heaters) (λ (g : ℕ). h ≢ g) hs b.1 d.0)))
          ∙ this

      go : (n : ℕ) → facts_of us ≡ facts_in a.settings (with_turns us (with_turn u x)) (length us) hs
          → let vs = (first u n (run_of hs s')).parts in facts_of vs ≡ facts_in a.settings (with_turns vs x) (length vs) (h ∷ hs)
      go zero r = unfold first with_turns in (rw (first_told, r))
      go (suc n) r = unfold first with_turns in (rw this)

  -- no more turns than heaters
  parts_few : (hs : List ℕ) (s : Heating) → length (run_of hs s).parts ≤ length hs
  unfolding run work_turn
  parts_few [] s = omega arith
  parts_few (h ∷ hs) s = go (turn_number f.cylinder u.turned) (parts_few hs (after_turn h u.turned s))
    where
      u : Turn
      u = turn_of f (points_of a) h s

      go : (n : ℕ) → length (run_of hs (after_turn h u.turned s)).parts ≤ length hs → length (first u n (run_of hs (after_turn h u.turned s))).parts ≤ suc (length hs)
      go zero l = unfold first in (omega arith)
      go (suc n) l = unfold first in (omega arith)

  -- ---- the step

  -- a step that had a turn passed its checks, and had no more turns than heaters
  module _ (st : State) where
    pub turn_passed : 0 < length (work f st a).turns → step_refusal f st a ≡ 0
    unfolding work
    turn_passed l = go (step_refusal f st a) l
      where
        go : (n : ℕ) → 0 < length (begin f st a n).turns → n ≡ 0
        go zero l = refl
        go (suc n) l = absurd (unfold begin in (omega (arith, l)))

    pub turns_few : length (work f st a).turns ≤ length f.heaters
    unfolding work
    turns_few = go (step_refusal f st a)
      where
        then_few : (es : List Event) (e : End DrawOff) → length (then_turns f st a es e).turns ≤ length f.heaters
        then_few es (refused n) = unfold then_turns in (omega arith)
        then_few es (done d) = unfold then_turns turns in (rw (order_many f) at (parts_few (working_order f) (unheated d.temps st.flags)))

        go : (n : ℕ) → length (begin f st a n).turns ≤ length f.heaters
        go zero = unfold begin in (then_few _ _)
        go (suc n) = unfold begin in (omega arith)

  module _ (st : State) (few : length f.heaters ≤ max_heaters) where
    abbrev Told : List Turn → Type 0
    Told us = facts_of us ≡ facts_in a.settings (with_turns us no_notes) (length us) (working_order f)

    -- the turns of a step's work are told by what they noted
    pub work_told : Told (work f st a).turns
    unfolding work
    work_told = go (step_refusal f st a)
      where
        none : Told []
        none = unfold facts_of in refl

        then_told : (es : List Event) (e : End DrawOff) → Told (then_turns f st a es e).turns
        then_told es (refused n) = unfold then_turns in none
        then_told es (done d) = unfold then_turns turns in (turns_told (working_order f) _ no_notes none_long (order_once f) (all_map _ _ (λ h l. omega arith) (working_order f) (order_below f)))

        go : (n : ℕ) → Told (begin f st a n).turns
        go zero = unfold begin in (then_told _ _)
        go (suc n) = unfold begin in none

pub none_told : (us : List Turn) → length us ≡ 0 → facts_of us ≡ []
none_told [] e = unfold facts_of in refl
none_told (u ∷ us) e = absurd (omega (arith, e))

-- ---- a step of a tank, by what it noted

first_of_first : (k n : ℕ) (xs : List ℕ) → k ≤ n → take k (take n xs) ≡ take k xs
first_of_first zero n xs l = refl
first_of_first (suc k) zero xs l = absurd (not-suc-le-zero l)
first_of_first (suc k) (suc n) [] l = refl
first_of_first (suc k) (suc n) (x ∷ xs) l = ap (λ (ys : List ℕ). x ∷ ys) (first_of_first k n xs (le_of_suc-le-suc l))

module _ (t : StorageTank) (a : Step) (x : TurnNotes) (noted : NotedTurns t a x) where
  pub no_more : x.worked ≤ t.heaters
  no_more = let l = turns_few (fixed_in t) a (state_in t) in let m = many_placed t.heaters t.fitted in let e = noted.many in omega arith

  module _ (some : x.worked ≡ 0 → ⊥) where
    pub few_heaters : t.heaters ≤ max_heaters
    few_heaters =
        let e = noted.many in
        let positive : 0 < length (work_of t a).turns = above (length (work_of t a).turns) (λ z. some (e ∙ z)) in
        (step_counts (fixed_in t).cylinder t.heaters t.fitted (state_in t) a (turn_passed (fixed_in t) a (state_in t) positive)).2
      where
        above : (n : ℕ) → (n ≡ 0 → ⊥) → 0 < n
        above zero z = absurd (z refl)
        above (suc n) z = omega arith

    -- an array that holds the working order
    pub step_told : (order : List ℕ) → take t.heaters order ≡ working_order (fixed_in t) → facts_in a.settings x x.worked order ≡ step_turns t a
    unfolding step_turns
    step_told order e =
        let few = few_heaters in
        let m = many_placed t.heaters t.fitted in
        ap (map (fact_in a.settings x)) (sym (first_of_first x.worked t.heaters order no_more) ∙ ap (take x.worked) e)
        ∙ rw (noted.many, noted.notes) (sym (work_told (fixed_in t) a (state_in t) (omega arith)))

-- ---- the loop that tells those of an order, which has come to k

module _ (settings : List SetPoints) (x : TurnNotes) (order : List ℕ) (few : length order ≤ max_heaters) where
  abbrev all : List TurnFact
  all = map (fact_in settings x) order

  pub one_told : (k : ℕ) → k < length order → set (copied k all no_facts) k (fact_in settings x (get_or order k 0)) ≡ copied (k + 1) all no_facts
  one_told k l =
      let d = fact_in settings x 0 in
      let many : length all ≡ length order = length-map order _ in
      let places : length no_facts ≡ max_heaters = length-replicate max_heaters no_fact in
      rw (← get_or-map (fact_in settings x) order k 0) (copied_next d k all no_facts (omega arith) (omega arith))

  pub all_told : (facts : List TurnFact) → facts ≡ copied (length order) all no_facts → ◌≡◌ {A = Turns} (record { count = length order; facts = facts }) (turns_of all)
  all_told facts e =
      let many : length all ≡ length order = length-map order _ in
      rw (e, many) refl
