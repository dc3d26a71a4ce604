-- Proves what demand 3 says of the history of every list of calls (00, demand 3; 01, Turn): it holds of each call's work, and each begins where the one before ended.
use mathlib.Core.Path.{◌≡◌, refl, sym, ◌∙◌}
use mathlib.Core.Logic.{◌↔◌}
use mathlib.Core.List.{List, [], ◌∷◌}
use mathlib.Core.Bool.{Bool, true, false, not, ◌&&◌}
use Prim.Native.Nat.{ℕ, zero, suc, ◌+◌, ◌-◌, ◌<◌, ◌≤◌}
use native.Mathlib.Nat.{not-suc-le-zero}
use native.Mathlib.Omega.{arith}
use lib.Dec.{T, eqb, eqb→eq, leb, leb→le, lit<}
use lib.ListN.{length, get_or, take, drop, replicate, length-append, length-replicate, length-drop, get_or-replicate, get_or-append}
use lib.Seq.{get_or-append-add, get_or-drop}
use lib.Ieee.{Float, nan}
use lib.Ieee.Scale.{finite}
use lib.Ieee.Fits.{and_l, and_r, and_i, eq→eqb}
use Rattle.numeric.specs.Double.{zero_f}
use Rattle.heater_switches.specs.SwitchLaws.{latched}
use Rattle.working_order.specs.Order.{max_heaters}
use Rattle.tank_model.specs.declared.TankDesign.{TankDesign}
use Rattle.tank_model.specs.Fixed.{fixed_of}
use Rattle.tank_model.specs.Checks.{make_refusal}
use Rattle.tank_model.specs.Run.{End, refused, done, ended_at, run}
use Rattle.tank_model.specs.Work.{Turn, Outcome, Work, stop, work}
use Rattle.tank_model.specs.History.{Call, step, design_refusal, Held, start, carry, call_work, work_call, history, held_after}
use Rattle.tank_model.specs.Course.{accepted}
use Rattle.tank_model.specs.HistoryDemand.{Began, Ended, InTurn, MixedOrNine, AllRightlySupplied, AllTold, RefusedWithOne, no_work, no_call, OnSince, Starts, Carries, CourseOf, HistoryDemand}
use Rattle.tank_model.proofs.Latch.{latched_by, latched_since}
use Rattle.tank_model.proofs.Members.{any, any→Some, Some→any}
use Rattle.tank_model.proofs.Order.{in_working_order}
use Rattle.tank_model.proofs.Refusals.{make_refused_as}
use Rattle.tank_model.proofs.Run.{more_parts, run_length, ended_more, run_each}
use Rattle.tank_model.proofs.Steps.{of_heater, began, ended, nothing_latched, Says, no_turns_say, course_says, course_mixes}
use Rattle.tank_model.proofs.TurnFacts.{lower_says, reached_says}
use Rattle.tank_model.proofs.Passes.{tank_passes}
use Rattle.tank_model.proofs.Course.{work_course}

-- ---- 'in an accepted step the heater's turn ..', as a test

abbrev in_turn : (Turn → Bool) → ℕ → Work → Bool
in_turn q h w = accepted w.end && any (of_heater h q) w.turns

module _ (q : Turn → Bool) (P : Turn → Type 0) (says : (u : Turn) → T (q u) ↔ P u) (h : ℕ) (w : Work) where
  to_turn : T (in_turn q h w) → InTurn P h w
  to_turn t = (
    and_l (accepted w.end) (any (of_heater h q) w.turns) t,
    any→Some (of_heater h q) (λ (u : Turn). (u.heater ≡ h) × P u) (λ u k. (eqb→eq u.heater h (and_l (eqb u.heater h) (q u) k), (says u).0 (and_r (eqb u.heater h) (q u) k))) w.turns
        (and_r (accepted w.end) (any (of_heater h q) w.turns) t),
  )

  of_turn : InTurn P h w → T (in_turn q h w)
  of_turn t =
      and_i (accepted w.end) (any (of_heater h q) w.turns) t.0
      (Some→any (of_heater h q) (λ (u : Turn). (u.heater ≡ h) × P u) (λ u k. and_i (eqb u.heater h) (q u) (eq→eqb k.0) ((says u).1 k.1)) w.turns t.1)

began_says : (u : Turn) → T (began u) ↔ Began u
began_says u = lower_says u.points u.start

ended_says : (u : Turn) → T (ended u) ↔ Ended u
ended_says u = reached_says u.points u.finish

not_T : (b : Bool) → T (not b) → ¬ (T b)
not_T true n t = n
not_T false n t = t

T_not : (b : Bool) → ¬ (T b) → T (not b)
T_not true n = n tt
T_not false n = tt

flags_on : (h : ℕ) (ws : List Work) → T (latched_by (in_turn began h) (in_turn ended h) no_work false ws) ↔ OnSince h ws
flags_on h ws =
    let since = latched_since (in_turn began h) (in_turn ended h) no_work refl refl ws in
    let at : ℕ → Work = λ i. get_or ws i no_work in (
      λ t. let o = since.0 t in (o.0, to_turn began Began began_says h (at o.0) o.1, λ j l k. not_T (in_turn ended h (at j)) (o.2 j l) (of_turn ended Ended ended_says h (at j) k)),
      λ o. since.1 (o.0, of_turn began Began began_says h (at o.0) o.1, λ j l. T_not (in_turn ended h (at j)) (λ k. o.2 j l (to_turn ended Ended ended_says h (at j) k))),
    )

-- ---- one call's work, from a state with a flag for each heater

module _ (n : ℕ) where
  abbrev Long : Held → Type 0
  Long x = length x.state.flags ≡ max_heaters

  course_one : (x : Held) (c : Call) → Long x → n ≡ 0 → CourseOf x c (call_work n c x)
  course_one x (step a) l e = go n e
    where
      go : (k : ℕ) → k ≡ 0 → CourseOf x (step a) (call_work k (step a) x)
      go zero z = unfold call_work in (work_course x.design a x.state l)
      go (suc k) z = absurd (omega arith)

  refused_one : (x : Held) (c : Call) → 0 < n → RefusedWithOne (call_work n c x)
  refused_one x (step a) l = go n l
    where
      go : (k : ℕ) → 0 < k → RefusedWithOne (call_work k (step a) x)
      go zero z = absurd (not-suc-le-zero z)
      go (suc k) z = unfold call_work in (refl, refl, refl)

  -- what follows from the course of a call, or from its refusal with nothing worked
  says_one : (x : Held) (c : Call) → Long x → Says x.design x.state (call_work n c x) × MixedOrNine x.design.layers (call_work n c x)
  says_one x (step a) l = go n
    where
      go : (k : ℕ) → Says x.design x.state (call_work k (step a) x) × MixedOrNine x.design.layers (call_work k (step a) x)
      go zero = unfold call_work in (
          let c = work_course x.design a x.state l in
          let w = work (fixed_of x.design) x.state a in
          (course_says x.design a x.state w c, course_mixes x.design a x.state w c))
      go (suc k) = unfold call_work in (no_turns_say x.design x.state (stop 1) 1 (lit< tt) refl refl, (tt, tt))

  flag_after : (x : Held) (c : Call) (h : ℕ) → Long x
      → get_or (carry x (call_work n c x).end).state.flags h false ≡ latched (in_turn began h (call_work n c x)) (in_turn ended h (call_work n c x)) (get_or x.state.flags h false)
  flag_after x c h l = go (call_work n c x).end (λ o e. (says_one x c l).0.flag o e h)
    where
      us : List Turn
      us = (call_work n c x).turns

      go : (e : End Outcome)
          → ((o : Outcome) → e ≡ done o → get_or o.heated.flags h false ≡ latched (any (of_heater h began) us) (any (of_heater h ended) us) (get_or x.state.flags h false))
          → get_or (carry x e).state.flags h false ≡ latched (accepted e && any (of_heater h began) us) (accepted e && any (of_heater h ended) us) (get_or x.state.flags h false)
      go (refused k) f = sym (nothing_latched (get_or x.state.flags h false))
      go (done o) f = f o refl

  long_next : (x : Held) (c : Call) → Long x → Long (carry x (call_work n c x).end)
  long_next x c l = go (call_work n c x).end (says_one x c l).0.flags_length
    where
      go : (e : End Outcome) → ((o : Outcome) → e ≡ done o → length o.heated.flags ≡ length x.state.flags) → Long (carry x e)
      go (refused k) f = l
      go (done o) f = f o refl ∙ l

  carries_one : (x : Held) (e : End Outcome) → Carries x e (carry x e)
  carries_one x (refused k) = (refl, refl)
  carries_one x (done o) = (refl, (refl, refl))

  -- ---- a list of calls

  pub no_number : (c : Call) (x : Held) → (work_call n c x).number ≡ 0
  unfolding work_call
  no_number c x = refl

  abbrev after : Held → List Call → Held
  after x calls = ended_at x (run (work_call n) calls x).end

  flags_latched : (h : ℕ) (calls : List Call) (x : Held) → Long x
      → get_or (after x calls).state.flags h false ≡ latched_by (in_turn began h) (in_turn ended h) no_work (get_or x.state.flags h false) (run (work_call n) calls x).parts
  unfolding run latched_by
  flags_latched h [] x l = refl
  flags_latched h (c ∷ calls) x l =
      rw (ended_more (work_call n) no_number c calls x, more_parts (work_call n) no_number c calls x)
      (flags_latched h calls (work_call n c x).leaves (unfold work_call in (long_next x c l)) ∙ unfold work_call in (rw (flag_after x c h l)))

  design_after : (calls : List Call) (x : Held) → (after x calls).design ≡ x.design
  unfolding run
  design_after [] x = refl
  design_after (c ∷ calls) x = rw (ended_more (work_call n) no_number c calls x) (design_after calls (work_call n c x).leaves ∙ unfold work_call in (carries_one x (call_work n c x).end).0)

  -- what holds of each call's work holds of each of a list's
  module _ (Q : Call → Held → Work → Held → Type 0) (one : (c : Call) (x : Held) → Long x → Q c x (call_work n c x) (carry x (call_work n c x).end)) where
    each : (calls : List Call) (x : Held) → Long x → (i : ℕ) → i < length calls → Q (get_or calls i no_call) (after x (take i calls)) (get_or (run (work_call n) calls x).parts i no_work) (after x (take (suc i) calls))
    each = run_each (work_call n) no_number no_call no_work Long (λ c x l. unfold work_call in (long_next x c l)) Q (λ c x l. unfold work_call in (one c x l))

-- ---- the start

module _ (m : TankDesign) (few : m.layers ≤ 32) where
  abbrev first : List Float
  first = replicate m.layers m.initial

  abbrev rest : List Float
  rest = drop m.layers (replicate 32 zero_f)

  starts_with : Starts m (start m).state
  starts_with = record {
    layers = λ k l. get_or-append first rest nan k (rw (length-replicate m.layers m.initial) l) ∙ get_or-replicate m.layers k m.initial nan l;
    unused = λ k l u.
        let e : k ≡ length first + (k - m.layers) = omega (arith, length-replicate m.layers m.initial) in
        let j : m.layers + (k - m.layers) < 32 = omega arith in
        rw e (get_or-append-add first rest (k - m.layers) nan ∙ get_or-drop m.layers (replicate 32 zero_f) (k - m.layers) nan ∙ get_or-replicate 32 (m.layers + (k - m.layers)) zero_f nan j);
    places = simp (length-append, length-replicate, length-drop) (omega arith);
    flags = refl;
  }

few_layers : (m : TankDesign) → design_refusal m ≡ 0 → m.layers ≤ 32
unfolding make_refusal
few_layers m e = leb→le m.layers 32 (and_r (leb 1 m.layers) (leb m.layers 32) (tank_passes (fixed_of m) (finite m.initial) [] e).layers)

-- ---- the demand

all_false : (n i : ℕ) → get_or (replicate n false) i false ≡ false
all_false zero i = refl
all_false (suc n) zero = refl
all_false (suc n) (suc i) = all_false n i

pub history_demand : (m : TankDesign) (calls : List Call) → HistoryDemand m calls
unfolding history held_after
history_demand m calls = record {
  design = λ i. design_after n (take i calls) (start m);
  flags = λ h. rw (flags_latched n h calls (start m) refl, all_false max_heaters h) (flags_on h works);
  supplies = each n (λ (c : Call) (x : Held) (w : Work) (y : Held). AllRightlySupplied x.design w) (λ c x l. (says_one n x c l).0.supplies) calls (start m) refl;
  reported = each n (λ (c : Call) (x : Held) (w : Work) (y : Held). (s : Outcome) → w.end ≡ done s → AllTold w s) (λ c x l. (says_one n x c l).0.told) calls (start m) refl;
  mixings = each n (λ (c : Call) (x : Held) (w : Work) (y : Held). MixedOrNine x.design.layers w) (λ c x l. (says_one n x c l).1) calls (start m) refl;
  refusals = each n (λ (c : Call) (x : Held) (w : Work) (y : Held). (k : ℕ) → w.end ≡ refused k → 0 < k) (λ c x l. (says_one n x c l).0.number) calls (start m) refl;
  works_all = run_length (work_call n) (no_number n) calls (start m);
  order = λ i. in_working_order _;
  refusal_of_make = (make_refused_as m n).0 refl;
  refused_make = each n (λ (c : Call) (x : Held) (w : Work) (y : Held). 0 < n → RefusedWithOne w) (λ c x l. refused_one n x c) calls (start m) refl;
  course = λ e. record {
    made = unfold run in refl;
    starts = unfold run in (starts_with m (few_layers m e));
    course = λ i l. each n (λ (c : Call) (x : Held) (w : Work) (y : Held). n ≡ 0 → CourseOf x c w) (λ c x k. course_one n x c k) calls (start m) refl i l e;
    carries = each n (λ (c : Call) (x : Held) (w : Work) (y : Held). Carries x w.end y) (λ c x l. carries_one n x (call_work n c x).end) calls (start m) refl;
  };
}
  where
    n : ℕ
    n = design_refusal m

    works : List Work
    works = (run (work_call n) calls (start m)).parts
