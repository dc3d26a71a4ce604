-- Proves demand 3: of what make and every list of calls answer, and of whatever was answered where each answer meets its call's promise (00, demand 3; 01, Turn).
use mathlib.Core.Path.{◌≡◌, refl, sym, ap, ap₂, ◌∙◌, subst}
use mathlib.Core.List.{List, [], ◌∷◌}
use mathlib.Core.Bool.{Bool, true, false, not, cond}
use Prim.Native.Nat.{ℕ, zero, suc, ◌<◌, ◌≤◌}
use native.Mathlib.Nat.{le_of_suc-le-suc, not-suc-le-zero}
use native.Mathlib.Omega.{arith}
use lib.Dec.{T, ltb, lt→ltb, ltb→lt, nltb→le}
use lib.ListN.{length, get_or, take}
use lib.Ieee.Bits.{is_true}
use Rattle.numeric.specs.Tabulate.{tabulate, at_tabulate, past_tabulate, tabulate_same}
use Rattle.working_order.specs.Order.{max_heaters}
use Rattle.tank_model.specs.declared.Heater.{Heater}
use Rattle.tank_model.specs.declared.HeaterLine.{HeaterLine}
use Rattle.tank_model.specs.declared.TankDesign.{TankDesign}
use Rattle.tank_model.specs.Fixed.{Placed, Fixed, State, placed, no_heater, zero_heater, placed_heaters, fixed_by, fixed_of}
use Rattle.tank_model.specs.FirstRefusal.{first_refusal}
use Rattle.tank_model.specs.Checks.{step_refusal}
use Rattle.tank_model.specs.Run.{End, refused, done, ended_at, Run, run}
use Rattle.tank_model.specs.Work.{Turn, Outcome, Work, zero_line, recoverable, begin, work}
use Rattle.tank_model.specs.History.{Call, step, design_refusal, Held, start, carry, call_work, work_call, history, held_after}
use Rattle.tank_model.specs.Members.{All}
use Rattle.tank_model.specs.Course.{accepted, passed, LineTells}
use Rattle.tank_model.specs.HistoryDemand.{RightlySupplied, AllRightlySupplied, AllTold, no_work, work_at, held_at, design_at, HistoryDemand}
use Rattle.tank_model.proofs.Members.{all_map, all_both}
use Rattle.tank_model.proofs.Passes.{made_heaters}
use Rattle.refusals.specs.Refusals.{number_in, refusal_with}
use Rattle.refusals.proofs.Numbers.{number-not_0}
use Rattle.tank_model.proofs.Numbered.{IsNumber, Numbered, above_zero, make_numbered, work_numbered}
use Rattle.tank_model.proofs.Run.{RefusedOnly, more_parts, ended_more}
use Rattle.tank_model.proofs.HistoryDemand.{no_number, history_demand}
use Rattle.storage_tank.specs.declared.StorageTank.{StorageTank}
use Rattle.storage_tank.specs.declared.Report.{Report}
use Rattle.storage_tank.specs.declared.Made.{Made}
use Rattle.storage_tank.specs.declared.Stepped.{Stepped}
use Rattle.storage_tank.specs.Tank.{fixed_in}
use Rattle.storage_tank.specs.Calls.{fitted_heaters, made_of, made, answer, stepped, answered, answers}
use Rattle.storage_tank.specs.Demand.{AnswersSupplies, AnswersTotals, AnswersNumber, no_answer, last_tank, tank_of, NoTank, holding, AsGiven, FittedAsGiven, Demand3, Promises}

-- ---- a tank that holds make's numbers is read as make's arguments

abbrev fitted_at : ℕ → List Heater → ℕ → Heater
fitted_at n xs h = cond (ltb h n) (get_or xs h no_heater) zero_heater

fitted_given : (n h : ℕ) (xs : List Heater) → h < n → h < max_heaters → get_or (fitted_heaters n xs) h no_heater ≡ get_or xs h no_heater
unfolding fitted_heaters
fitted_given n h xs l k =
    at_tabulate (fitted_at n xs) max_heaters h no_heater k ∙ ap (λ (b : Bool). cond b (get_or xs h no_heater) zero_heater) (is_true (ltb h n) (lt→ltb h n l))

not_below : (h n : ℕ) → n ≤ h → ltb h n ≡ false
not_below h n l = go (ltb h n) (ltb→lt h n)
  where
    go : (b : Bool) → (T b → h < n) → b ≡ false
    go true k = absurd (let k' = k tt in omega arith)
    go false k = refl

fitted_unused : (n h : ℕ) (xs : List Heater) → n ≤ h → get_or (fitted_heaters n xs) h zero_heater ≡ zero_heater
unfolding fitted_heaters
fitted_unused n h xs l = go (ltb h max_heaters) (ltb→lt h max_heaters) (nltb→le h max_heaters)
  where
    go : (b : Bool) → (T b → h < max_heaters) → (T (not b) → max_heaters ≤ h) → get_or (tabulate (fitted_at n xs) max_heaters 0) h zero_heater ≡ zero_heater
    go true k k' = at_tabulate (fitted_at n xs) max_heaters h zero_heater (k tt) ∙ ap (λ (b : Bool). cond b (get_or xs h no_heater) zero_heater) (not_below h n l)
    go false k k' = past_tabulate (fitted_at n xs) max_heaters 0 h zero_heater (k' tt)

as_given : (x y : Heater) → y ≡ x → AsGiven x y
as_given x y e = record { rated = ap (λ (z : Heater). z.rated) e; position = ap (λ (z : Heater). z.position) e; thermostat = ap (λ (z : Heater). z.thermostat) e }

pub fixed_is : (m : TankDesign) (st : State) → m.heaters ≤ max_heaters → fixed_in (tank_of m st) ≡ fixed_of m
unfolding placed_heaters
fixed_is m st l =
    ap (λ (hs : List Placed). fixed_by (fixed_of m).cylinder hs)
    (tabulate_same (λ (h : ℕ). placed (get_or (tank_of m st).fitted h no_heater)) (λ (h : ℕ). placed (get_or m.fitted h no_heater)) m.heaters 0
    (λ h l' k. ap placed (fitted_given m.heaters h m.fitted (omega arith) (omega arith))))

-- ---- one call on a tank that holds x: it answers by the work from the arguments, and hands back a tank that holds what is carried on

module _ (n : ℕ) where
  -- a made tank has a place for each heater
  abbrev pub Fits : Held → Type 0
  Fits x = n ≡ 0 → x.design.heaters ≤ max_heaters

  call_is : (x : Held) (r : Report) (c : Call) → Fits x → answered (holding n x) r c ≡ answer (holding n x) r (call_work n c x).end
  call_is x r (step a) fits = go n fits
    where
      go : (k : ℕ) → (k ≡ 0 → x.design.heaters ≤ max_heaters) → answered (holding k x) r (step a) ≡ answer (holding k x) r (call_work k (step a) x).end
      go zero f = unfold call_work answered stepped in (ap (λ (y : Fixed). answer (tank_of x.design x.state) r (work y x.state a).end) (fixed_is x.design x.state (f refl)))
      go (suc k) f = unfold call_work answered stepped work step_refusal first_refusal begin in refl

  tank_is : (x : Held) (r : Report) (c : Call) → (answer (holding n x) r (call_work n c x).end).tank ≡ holding n (carry x (call_work n c x).end)
  tank_is x r (step a) = go n
    where
      one : (e : End Outcome) → (answer (holding 0 x) r e).tank ≡ holding 0 (carry x e)
      one (refused k) = unfold answer in refl
      one (done s) = unfold answer in refl

      go : (k : ℕ) → (answer (holding k x) r (call_work k (step a) x).end).tank ≡ holding k (carry x (call_work k (step a) x).end)
      go zero = unfold call_work in (one (work (fixed_of x.design) x.state a).end)
      go (suc k) = unfold call_work answer in refl

  pub answered_tank : (x : Held) (r : Report) (c : Call) → Fits x → (answered (holding n x) r c).tank ≡ holding n (carry x (call_work n c x).end)
  answered_tank x r c f = ap (λ (y : Stepped). y.tank) (call_is x r c f) ∙ tank_is x r c

  pub fits_next : (x : Held) (e : End Outcome) → Fits x → Fits (carry x e)
  fits_next x (refused k) f = f
  fits_next x (done s) f = f

  -- what a call's work is refused for has a refusal's number
  call_numbered : (x : Held) (c : Call) → RefusedOnly IsNumber (call_work n c x).end
  call_numbered x (step a) = go n
    where
      go : (k : ℕ) → RefusedOnly IsNumber (call_work k (step a) x).end
      go zero = unfold call_work in (work_numbered (fixed_of x.design) x.state a)
      go (suc k) = unfold call_work in refl

  -- ---- a list of calls

  -- one call more: its work, and what it leaves to the others
  abbrev pub next : Call → Held → Held
  next c x = carry x (call_work n c x).end

  pub more_works : (c : Call) (calls : List Call) (x : Held) → (run (work_call n) (c ∷ calls) x).parts ≡ call_work n c x ∷ (run (work_call n) calls (next c x)).parts
  unfolding work_call
  more_works c calls x = ap (λ (r : Run Work Held). r.parts) (more_parts (work_call n) (no_number n) c calls x)

  more_held : (c : Call) (calls : List Call) (x : Held) → ended_at x (run (work_call n) (c ∷ calls) x).end ≡ ended_at (next c x) (run (work_call n) calls (next c x)).end
  unfolding work_call
  more_held = ended_more (work_call n) (no_number n)

  -- what holds of a work, of the answer made from its end, and of what the tank holds then, holds of each of a list's
  module _ (Q : Work → Stepped → Held → Type 0)
      (one : (x : Held) (r : Report) (w : Work) → RefusedOnly IsNumber w.end → (answer (holding n x) r w.end).tank ≡ holding n (carry x w.end) → Q w (answer (holding n x) r w.end) (carry x w.end)) where
    each : (calls : List Call) (x : Held) (r : Report) → Fits x → (i : ℕ) → i < length calls
        → Q (get_or (run (work_call n) calls x).parts i no_work) (get_or (answers (holding n x) r calls) i no_answer) (ended_at x (run (work_call n) (take (suc i) calls) x).end)
    unfolding answers
    each [] x r f i k = absurd (not-suc-le-zero k)
    each (c ∷ calls) x r f zero k = rw (more_works c calls x, more_held c [] x, call_is x r c f) (unfold run in (one x r (call_work n c x) (call_numbered x c) (tank_is x r c)))
    each (c ∷ calls) x r f (suc i) k =
        rw (more_works c calls x, more_held c (take (suc i) calls) x, answered_tank x r c f)
        (each calls (next c x) (answered (holding n x) r c).report (fits_next x (call_work n c x).end f) i (le_of_suc-le-suc k))

  last_is : (calls : List Call) (x : Held) (r : Report) → Fits x → last_tank (holding n x) (answers (holding n x) r calls) ≡ holding n (ended_at x (run (work_call n) calls x).end)
  unfolding answers
  last_is [] x r f = unfold run in refl
  last_is (c ∷ calls) x r f =
      rw (more_held c calls x, answered_tank x r c f) (last_is calls (next c x) (answered (holding n x) r c).report (fits_next x (call_work n c x).end f))

-- where make is refused nothing is worked, and no flag goes on
stays : (k : ℕ) (calls : List Call) (x : Held) → ended_at x (run (work_call (suc k)) calls x).end ≡ x
unfolding call_work
stays k [] x = unfold run in refl
stays k (step a ∷ calls) x = more_held (suc k) (step a) calls x ∙ stays k calls x

held_flags : (n : ℕ) (calls : List Call) (m : TankDesign) → let x = ended_at (start m) (run (work_call n) calls (start m)).end in (holding n x).flags ≡ x.state.flags
held_flags zero calls m = refl
held_flags (suc k) calls m = sym (ap (λ (x : Held). x.state.flags) (stays k calls (start m)))

-- ---- an answer by where its work ended

-- the number answered, where a refusal has one that is not 0
abbrev NumberIs : Work → Stepped → Type 0
NumberIs w y = ((k : ℕ) → w.end ≡ refused k → 0 < k) → AnswersNumber w y

number_one : (t : StorageTank) (r : Report) (w : Work) → RefusedOnly IsNumber w.end → NumberIs w (answer t r w.end)
number_one t r w is above = go w.end is above
  where
    go : (e : End Outcome) → RefusedOnly IsNumber e → ((k : ℕ) → e ≡ refused k → 0 < k) → AnswersNumber (record { events = []; turns = []; end = e }) (answer t r e)
    go (refused k) n f = unfold answer in (n, (λ t. absurd t, λ t. absurd (number-not_0 (refusal_with k) t)))
    go (done s) n f = unfold answer in (refl, (λ t. refl, λ t. tt))

-- an accepted step's report has the lines of its work's end
abbrev LinesAre : Work → Stepped → Type 0
LinesAre w y = (s : Outcome) → w.end ≡ done s → y.report.lines ≡ s.heated.lines

lines_one : (t : StorageTank) (r : Report) (w : Work) → LinesAre w (answer t r w.end)
lines_one t r w s e = rw e (unfold answer in refl)

-- and its totals
abbrev TotalsAre : Work → Stepped → Type 0
TotalsAre w y = (s : Outcome) → w.end ≡ done s → AnswersTotals s y.report

totals_one : (t : StorageTank) (r : Report) (w : Work) → TotalsAre w (answer t r w.end)
totals_one t r w s e = rw e (unfold answer recoverable in (record { energy = refl; used = refl; average = refl; recoverable = refl }))

accepted_done : (e : End Outcome) → T (accepted e) → (s : Outcome) × (e ≡ done s)
accepted_done (refused n) t = absurd t
accepted_done (done s) t = (s, refl)

abbrev LinesOf : List Turn → List HeaterLine → Type 0
LinesOf us lines = All (λ (u : Turn). LineTells u (get_or lines u.heater zero_line)) us

lines_reported : (w : Work) (y : Stepped) → LinesAre w y → ((s : Outcome) → w.end ≡ done s → AllTold w s) → T (accepted w.end) → LinesOf w.turns y.report.lines
lines_reported w y same told t =
    let s = accepted_done w.end t in
    subst (LinesOf w.turns) (sym (same s.0 s.1)) (told s.0 s.1)

-- what a report says of a turn's supply is what was worked
supplies_reported : (m : TankDesign) (w : Work) (y : Stepped) → (T (accepted w.end) → LinesOf w.turns y.report.lines) → AllRightlySupplied m w → AnswersSupplies m w y
supplies_reported m w y told right = go (accepted w.end) told
  where
    R : Turn → Type 0
    R u = T (passed u.turned.mixing) → RightlySupplied m u u.turned.supplied

    go : (b : Bool) → (T b → LinesOf w.turns y.report.lines) → All (λ (u : Turn). T (passed u.turned.mixing) → RightlySupplied m u (cond b (get_or y.report.lines u.heater zero_line).supplied u.turned.supplied)) w.turns
    go false f = right
    go true f =
        all_map (λ (u : Turn). R u × LineTells u (get_or y.report.lines u.heater zero_line)) (λ (u : Turn). T (passed u.turned.mixing) → RightlySupplied m u (get_or y.report.lines u.heater zero_line).supplied) (λ u p t. rw p.1.supplied (p.0 t)) w.turns
        (all_both R (λ (u : Turn). LineTells u (get_or y.report.lines u.heater zero_line)) w.turns right (f tt))

all_answered : (calls : List Call) (t : StorageTank) (r : Report) → length (answers t r calls) ≡ length calls
unfolding answers
all_answered [] t r = refl
all_answered (x ∷ calls) t r = ap suc (all_answered calls (answered t r x).tank (answered t r x).report)

-- ---- the demand

module _ (m : TankDesign) where
  pub made_is : (number_in (made m).outcome ≡ design_refusal m) × ((made m).tank ≡ holding (design_refusal m) (start m))
  unfolding made
  made_is = go (design_refusal m) (make_numbered m)
    where
      go : (n : ℕ) → Numbered n → (number_in (made_of m n).outcome ≡ n) × ((made_of m n).tank ≡ holding n (start m))
      go zero e = unfold made_of in (refl, refl)
      go (suc n) e = unfold made_of in (above_zero (suc n) e (λ z. omega arith), refl)

  fits : design_refusal m ≡ 0 → m.heaters ≤ max_heaters
  fits e = made_heaters m e

  fitted_as_given : (n : ℕ) → n ≡ 0 → m.heaters ≤ max_heaters → FittedAsGiven m (holding n (start m))
  fitted_as_given zero z l = record { given = λ h k. as_given _ _ (fitted_given m.heaters h m.fitted k (omega arith)); unused = λ h k. fitted_unused m.heaters h m.fitted k }
  fitted_as_given (suc n) z l = absurd (omega arith)

  no_tank : (n : ℕ) → 0 < n → NoTank (holding n (start m))
  no_tank zero l = absurd (not-suc-le-zero l)
  no_tank (suc n) l = record {
    layers = refl;
    heaters = refl;
    volume = refl;
    standby = refl;
    rho = refl;
    cp = refl;
    ambient = refl;
    timestep = refl;
    temps = refl;
    fitted = refl;
    flags = refl;
  }

  pub demand3 : (r : Report) (calls : List Call) → Demand3 m calls (made m) (answers (made m).tank r calls)
  demand3 r calls = rw made_is.1 (record {
    worked = worked;
    flags = λ h. unfold held_after in (rw (last_is n calls (start m) r fits, held_flags n calls m) (worked.flags h));
    supplies = λ i l. supplies_reported (design_at m calls i) (work_at m calls i) (get_or (answers (holding n (start m)) r calls) i no_answer) (reported i l) (worked.supplies i l);
    reported = reported;
    totals = λ i l. of_each (λ (w : Work) (y : Stepped) (x : Held). TotalsAre w y) (λ x q w k e. totals_one (holding n x) q w) i l;
    numbers = λ i l. of_each (λ (w : Work) (y : Stepped) (x : Held). NumberIs w y) (λ x q w k e. number_one (holding n x) q w k) i l (worked.refusals i l);
    makes = (made_is.0, unfold held_after run in refl);
    fitted = λ e. fitted_as_given n e (fits e);
    refused_make = no_tank n;
    carries = of_each (λ (w : Work) (y : Stepped) (x : Held). y.tank ≡ holding n x) (λ x q w k e. e);
    answers_all = all_answered calls (holding n (start m)) r;
  })
    where
      n : ℕ
      n = design_refusal m

      worked : HistoryDemand m calls
      worked = history_demand m calls

      of_each : (Q : Work → Stepped → Held → Type 0) → ((x : Held) (q : Report) (w : Work) → RefusedOnly IsNumber w.end → (answer (holding n x) q w.end).tank ≡ holding n (carry x w.end) → Q w (answer (holding n x) q w.end) (carry x w.end))
          → (i : ℕ) → i < length calls → Q (work_at m calls i) (get_or (answers (holding n (start m)) r calls) i no_answer) (held_at m calls (suc i))
      of_each Q one = unfold history held_after in (each n Q one calls (start m) r fits)

      reported : (i : ℕ) → i < length calls → let w = work_at m calls i in T (accepted w.end) → LinesOf w.turns (get_or (answers (holding n (start m)) r calls) i no_answer).report.lines
      reported i l =
          lines_reported (work_at m calls i) (get_or (answers (holding n (start m)) r calls) i no_answer)
          (of_each (λ (w : Work) (y : Stepped) (x : Held). LinesAre w y) (λ x q w k e. lines_one (holding n x) q w) i l) (worked.reported i l)

  -- ---- the same of whatever was answered, if each answer is what its call promises

  only_answers : (calls : List Call) (t : StorageTank) (r : Report) (xs : List Stepped) → Promises t r calls xs → xs ≡ answers t r calls
  unfolding answers
  only_answers [] t r [] p = refl
  only_answers [] t r (x ∷ xs) p = absurd p
  only_answers (c ∷ calls) t r [] p = absurd p
  only_answers (c ∷ calls) t r (x ∷ xs) p = ap₂ (λ y ys. y ∷ ys) p.0 (only_answers calls x.tank x.report xs p.1 ∙ ap (λ (y : Stepped). answers y.tank y.report calls) p.0)

  pub answers_meet_demand3 : (r : Report) (calls : List Call) (x : Made) (xs : List Stepped) → x ≡ made m → Promises x.tank r calls xs → Demand3 m calls x xs
  answers_meet_demand3 r calls x xs e p = rw (only_answers calls x.tank r xs p, e) (demand3 r calls)
