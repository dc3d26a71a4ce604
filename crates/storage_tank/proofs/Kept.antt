-- Proves that a step keeps the places past its layers and the lengths of its arrays, so that the unused places of every tank handed back are zero (01, The four calls:
-- unused places are zero, but a step keeps the tank's).
use mathlib.Core.Path.{◌≡◌, refl, sym, ◌∙◌, subst}
use mathlib.Core.List.{List, [], ◌∷◌, ◌++◌}
use mathlib.Core.Bool.{false}
use Prim.Native.Nat.{ℕ, zero, suc, ◌≤◌, ◌<◌}
use native.Mathlib.Nat.{le_of_suc-le-suc, not-suc-le-zero}
use native.Mathlib.Omega.{arith}
use lib.ListN.{length, get_or, drop, replicate, length-set}
use lib.Seq.{get_or-set_other}
use lib.Ieee.{Float}
use Rattle.refusals.specs.Refusals.{number_in, refusal_with}
use Rattle.refusals.proofs.Numbers.{number-not_0}
use Rattle.numeric.specs.Double.{zero_f}
use Rattle.numeric.specs.Places.{Keeps, keeps_self, keeps_trans}
use Rattle.mixing.specs.Limits.{max_layers}
use Rattle.draw_events.specs.Event.{Event}
use Rattle.draw_events.proofs.Keeps.{event_keeps}
use Rattle.immersion_heater.proofs.Keeps.{turn_keeps_temps}
use Rattle.working_order.specs.Order.{max_heaters}
use Rattle.tank_model.specs.declared.TankDesign.{TankDesign}
use Rattle.tank_model.specs.declared.Step.{Step}
use Rattle.tank_model.specs.Fixed.{Fixed, State, immersion_of}
use Rattle.tank_model.specs.Order.{working_order}
use Rattle.tank_model.specs.Checks.{points_of, step_refusal}
use Rattle.tank_model.specs.Run.{End, refused, done}
use Rattle.tank_model.specs.Work.{DrawOff, undrawn, work_event, feed_in, wanted_volumes, events, Heating, zero_line, unheated, turn_of, work_turn, turns, Outcome, close, then_turns, begin, work}
use Rattle.tank_model.specs.History.{Call, step, design_refusal}
use Rattle.tank_model.proofs.Run.{Reached, reached_by, run_keeps}
use Rattle.tank_model.proofs.Members.{all_any}
use Rattle.tank_model.proofs.Order.{many_placed, order_below}
use Rattle.storage_tank.specs.declared.StorageTank.{StorageTank}
use Rattle.storage_tank.specs.declared.Report.{Report}
use Rattle.storage_tank.specs.Tank.{fixed_in, state_in}
use Rattle.storage_tank.specs.Calls.{made, made_of, answer, stepped, answered, answers}
use Rattle.storage_tank.specs.Demand.{no_answer}

-- the layers' array of st is kept past n places, the flags keep their number, and the lines past k heaters are zero
pub record KeepsState (n k : ℕ) (st : State) (s : Heating) : Type 0 where
  pub temps : Keeps n st.temps s.temps
  pub flags : length s.flags ≡ length st.flags
  pub lines : (h : ℕ) → k ≤ h → get_or s.lines h zero_line ≡ zero_line

zero_lines : (k h : ℕ) → get_or (replicate k zero_line) h zero_line ≡ zero_line
zero_lines zero h = refl
zero_lines (suc k) zero = refl
zero_lines (suc k) (suc h) = zero_lines k h

-- where a step's work ended: with a number above 0, or with what is kept
module _ (f : Fixed) (a : Step) (st : State) where
  abbrev Kept : Heating → Type 0
  Kept s = KeepsState f.cylinder.layers (length f.heaters) st s

  turn_left : (h : ℕ) (s : Heating) → h < length f.heaters → Kept s → Kept (work_turn f (points_of a) h s).leaves
  unfolding work_turn turn_of
  turn_left h s l k = record {
    temps = keeps_trans f.cylinder.layers st.temps s.temps _ k.temps (turn_keeps_temps f.cylinder f.vol (immersion_of f h) (points_of a h) s.temps s.charged (get_or s.flags h false));
    flags = length-set s.flags h _ ∙ k.flags;
    lines = λ j m. get_or-set_other s.lines h j _ zero_line (λ e. omega arith) ∙ k.lines j m;
  }

  abbrev TempsKept : DrawOff → Type 0
  TempsKept s = Keeps f.cylinder.layers st.temps s.temps

  event_left : (v : Float) (s : DrawOff) → Unit {0} → TempsKept s → TempsKept (work_event f (feed_in a) v s).leaves
  unfolding work_event
  event_left v s u k = keeps_trans f.cylinder.layers st.temps s.temps _ k (event_keeps f.cylinder f.vol (feed_in a) v s.temps s.totals)

  turns_left : (temps : List Float) → Keeps f.cylinder.layers st.temps temps → Reached Kept (turns f (points_of a) temps st.flags).end
  unfolding turns
  turns_left temps k =
      run_keeps (work_turn f (points_of a)) (λ (h : ℕ). h < length f.heaters) Kept turn_left (working_order f) (unheated temps st.flags) (order_below f)
      (record { temps = k; flags = refl; lines = λ h l. zero_lines max_heaters h })

  abbrev Left : End Outcome → Type 0
  Left e = Reached (λ (o : Outcome). Kept o.heated) e

  close_left : (d : DrawOff) (x : Float) (e : End Heating) → Reached Kept e → Left (close d x e)
  unfolding close
  close_left d x (refused n) k = k
  close_left d x (done s) k = reached_by (λ (o : Outcome). Kept o.heated) _ (record { drawn = d; average = x; heated = s }) k

  pub work_left : Left (work f st a).end
  unfolding work
  work_left = go (step_refusal f st a)
    where
      then_left : (es : List Event) (e : End DrawOff) → Reached TempsKept e → Left (then_turns f st a es e).end
      then_left es (refused n) k = unfold then_turns in k
      then_left es (done d) k = unfold then_turns in (close_left d _ _ (turns_left d.temps k))

      go : (n : ℕ) → Left (begin f st a n).end
      go (suc n) = unfold begin in (omega arith)
      go zero = unfold begin events in (then_left _ _ (run_keeps (work_event f (feed_in a)) (λ (v : Float). Unit {0}) TempsKept event_left (wanted_volumes a) (undrawn st.temps) (all_any (wanted_volumes a)) (keeps_self f.cylinder.layers st.temps)))

-- a step keeps the places past the tank's layers, and its arrays their lengths
pub step_keeps : (t : StorageTank) (r : Report) (a : Step) → Keeps t.layers t.temps (stepped t r a).tank.temps × (length (stepped t r a).tank.flags ≡ length t.flags)
unfolding stepped
step_keeps t r a = go (work (fixed_in t) (state_in t) a).end (work_left (fixed_in t) a (state_in t))
  where
    go : (e : End Outcome) → Left (fixed_in t) a (state_in t) e → Keeps t.layers t.temps (answer t r e).tank.temps × (length (answer t r e).tank.flags ≡ length t.flags)
    go (refused n) k = unfold answer in (keeps_self t.layers t.temps, refl)
    go (done s) k = unfold answer in (k.temps, k.flags)

-- the report of an accepted step has zeros past the tank's heaters
pub report_unused : (t : StorageTank) (r : Report) (a : Step) → number_in (stepped t r a).outcome ≡ 0 → (h : ℕ) → t.heaters ≤ h → get_or (stepped t r a).report.lines h zero_line ≡ zero_line
unfolding stepped
report_unused t r a z h l = go (work (fixed_in t) (state_in t) a).end (work_left (fixed_in t) a (state_in t)) z
  where
    go : (e : End Outcome) → Left (fixed_in t) a (state_in t) e → number_in (answer t r e).outcome ≡ 0 → get_or (answer t r e).report.lines h zero_line ≡ zero_line
    go (refused n) k q = absurd (unfold answer in (number-not_0 (refusal_with n) q))
    go (done s) k q = unfold answer in (k.lines h (subst (λ (n : ℕ). n ≤ h) (sym (many_placed t.heaters t.fitted)) l))

-- ---- the unused places of the tanks of a list of calls

-- what stands past a tank's layers is zero
abbrev pub UnusedZero : StorageTank → Type 0
UnusedZero t = (j : ℕ) → t.layers ≤ j → get_or t.temps j zero_f ≡ zero_f

all_zero : (k j : ℕ) → get_or (replicate k zero_f) j zero_f ≡ zero_f
all_zero zero j = refl
all_zero (suc k) zero = refl
all_zero (suc k) (suc j) = all_zero k j

drop_nothing : (n : ℕ) → drop {A = Float} n [] ≡ []
drop_nothing zero = refl
drop_nothing (suc n) = refl

filled_past : (n k : ℕ) (x : Float) (j : ℕ) → n ≤ j → get_or (replicate n x ++ drop n (replicate k zero_f)) j zero_f ≡ zero_f
filled_past zero k x j l = all_zero k j
filled_past (suc n) k x zero l = absurd (not-suc-le-zero l)
filled_past (suc n) zero x (suc j) l = subst (λ (ys : List Float). get_or (replicate n x ++ ys) j zero_f ≡ zero_f) (drop_nothing n) (filled_past n zero x j (le_of_suc-le-suc l))
filled_past (suc n) (suc k) x (suc j) l = filled_past n k x j (le_of_suc-le-suc l)

pub made_unused : (m : TankDesign) → UnusedZero (made m).tank
unfolding made
made_unused m = go (design_refusal m)
  where
    go : (n : ℕ) → UnusedZero (made_of m n).tank
    go zero = unfold made_of in (filled_past m.layers max_layers m.initial)
    go (suc n) = unfold made_of in (λ j l. all_zero max_layers j)

step_layers : (t : StorageTank) (r : Report) (a : Step) → (stepped t r a).tank.layers ≡ t.layers
unfolding stepped
step_layers t r a = go (work (fixed_in t) (state_in t) a).end
  where
    go : (e : End Outcome) → (answer t r e).tank.layers ≡ t.layers
    go (refused n) = unfold answer in refl
    go (done s) = unfold answer in refl

call_unused : (t : StorageTank) (r : Report) (x : Call) → UnusedZero t → UnusedZero (answered t r x).tank
unfolding answered
call_unused t r (step a) z j l =
    let k : t.layers ≤ j = subst (λ (n : ℕ). n ≤ j) (step_layers t r a) l in
    (step_keeps t r a).0.past j zero_f k ∙ z j k

pub tanks_unused : (calls : List Call) (t : StorageTank) (r : Report) → UnusedZero t → (i : ℕ) → i < length calls → UnusedZero (get_or (answers t r calls) i no_answer).tank
unfolding answers
tanks_unused [] t r z i l = absurd (not-suc-le-zero l)
tanks_unused (x ∷ calls) t r z zero l = call_unused t r x z
tanks_unused (x ∷ calls) t r z (suc i) l = tanks_unused calls (answered t r x).tank (answered t r x).report (call_unused t r x z) i (le_of_suc-le-suc l)
