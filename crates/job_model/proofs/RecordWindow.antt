-- Proves that a record does in a window of the input what it does in the whole input (01, Job): the same tank, the same lines, offsets counted in the whole.
use Prim.Native.Nat.{ℕ, ◌+◌, ◌-◌, ◌≤◌}
use native.Mathlib.Omega.{arith}
use mathlib.Core.Bool.{Bool, true, false, cond, not, ◌&&◌}
use mathlib.Core.List.{List, []}
use mathlib.Core.Logic.{◌⊎◌, inl, inr}
use Rattle.std.specs.Prelude.{Result, Ok, Err}
use Rattle.refusals.specs.Refusals.{number_in}
use Rattle.refusals.specs.declared.Refusal.{Refusal}
use mathlib.Core.Path.{◌≡◌, refl}
use borrow.Author.Tests.{eqb-true, eqb-false, eq-eqb, ne_eqb}
use lib.Dec.{eqb}
use lib.ListN.{length}
use Rattle.tank_model.specs.declared.Heater.{Heater}
use Rattle.tank_model.specs.declared.TankDesign.{TankDesign}
use Rattle.tank_model.specs.declared.Step.{Step}
use Rattle.tank_model.specs.Checks.{heaters_check}
use Rattle.storage_tank.specs.Calls.{made}
use Rattle.job_records.specs.declared.Record.{Record}
use Rattle.job_records.specs.declared.Record.TheVariants.{Tank, Heater as HeaterCase, Step as StepCase}
use Rattle.job_records.specs.declared.Reading.{Reading}
use Rattle.job_records.specs.WellFormed.{WellFormed}
use Rattle.job_records.specs.Records.{design_of, refused_at}
use Rattle.job_records.specs.Windows.{Window, AreBytes, max_record, moved_to}
use Rattle.job_records.proofs.ReadLaws.{read_either, well_formed_moves}
use Rattle.job_records.proofs.WindowLaws.{window_reads}
use Rattle.job_model.specs.declared.Job.{Job}
use Rattle.job_model.specs.Job.{RecordRun, with_heater, offset_of, came_before, reading_of, ended_job, with_tank, refused_run, made_run, heater_run, StepText, step_run, end_run, run_of, run_record}
use Rattle.job_model.specs.Windows.{in_whole, run_in_whole}

-- the record at a window's position can be read there: nothing follows the window, or no record reaches past it
abbrev pub Ready : List ℕ → List ℕ → Job → Type 0
Ready s w j = (j.before + length w ≡ length s) ⊎ (j.at + max_record ≤ length w)

-- a choice made alike on both sides
alike : (b : Bool) (x y x' y' : RecordRun) → x ≡ run_in_whole x' → y ≡ run_in_whole y' → cond b x y ≡ run_in_whole (cond b x' y')
alike true x y x' y' p q = p
alike false x y x' y' p q = q

module _ (j : Job) where
  same_offset : 0 + offset_of j ≡ offset_of j
  same_offset = omega arith

  refused_whole : (n : ℕ) → refused_run (in_whole j) n ≡ run_in_whole (refused_run j n)
  unfolding refused_run
  refused_whole n = rw same_offset

  module _ (next : ℕ) (l : j.at ≤ next) where
    pub same_next : offset_of j + (next - j.at) ≡ j.before + next
    same_next = omega arith

    made_whole : (d : TankDesign) → made_run (in_whole j) (offset_of j + (next - j.at)) d ≡ run_in_whole (made_run j next d)
    unfolding made_run
    made_whole d =
        let m = made d in
        rw same_next (alike (eqb (number_in m.outcome) 0) (record { job = with_tank (in_whole j) (j.before + next) d m.tank; text = [] }) (refused_run (in_whole j) (number_in m.outcome)) (record { job = with_tank j next d m.tank; text = [] }) (refused_run j (number_in m.outcome)) refl (refused_whole (number_in m.outcome)))

    heater_whole : (h : Heater) → heater_run (in_whole j) (offset_of j + (next - j.at)) h ≡ run_in_whole (heater_run j next h)
    unfolding heater_run
    heater_whole h =
        let d = with_heater j.design h in
        let n = heaters_check (j.design.heaters + 1) in
        alike (eqb n 0) (made_run (in_whole j) (offset_of j + (next - j.at)) d) (refused_run (in_whole j) n) (made_run j next d) (refused_run j n) (made_whole d) (refused_whole n)

    step_whole : (text : StepText) (a : Step) → step_run text (in_whole j) (offset_of j + (next - j.at)) a ≡ run_in_whole (step_run text j next a)
    unfolding step_run
    step_whole text a = rw same_next

module _ (s w : List ℕ) (j : Job) (placed : j.at ≤ length w) (inside : j.before + length w ≤ length s) (ready : Ready s w j) where
  same_end : eqb (offset_of j) (length s) ≡ eqb j.at (length w)
  same_end = go ready
    where
      by_test : j.before + length w ≡ length s → (b : Bool) → eqb j.at (length w) ≡ b → eqb (offset_of j) (length s) ≡ b
      by_test e true t = let q = eqb-true j.at (length w) t in eq-eqb (offset_of j) (length s) (omega arith)
      by_test e false t = ne_eqb (offset_of j) (length s) (λ q. eqb-false j.at (length w) t (omega arith))

      go : Ready s w j → eqb (offset_of j) (length s) ≡ eqb j.at (length w)
      go (inl e) = by_test e (eqb j.at (length w)) refl
      go (inr l) = rw (ne_eqb (offset_of j) (length s) (λ e. omega arith), ne_eqb j.at (length w) (λ e. omega arith))

  end_whole : (n : ℕ) → end_run (length s) (in_whole j) n ≡ run_in_whole (end_run (length w) j n)
  unfolding end_run
  end_whole n =
      rw (same_offset j, same_end)
      (alike (eqb j.at (length w) && not (eqb (offset_of j) 0)) (record { job = ended_job (in_whole j); text = [] }) (refused_run (in_whole j) n) (record { job = ended_job j; text = [] }) (refused_run j n) refl (refused_whole j n))

  of_whole : (text : StepText) (next : ℕ) → j.at ≤ next → (x : Result Record Refusal) → run_of text s (in_whole j) (offset_of j + (next - j.at)) x ≡ run_in_whole (run_of text w j next x)
  unfolding run_of
  of_whole text next l (Ok (Tank t)) = made_whole j next l (design_of t)
  of_whole text next l (Ok (HeaterCase h)) = heater_whole j next l h
  of_whole text next l (Ok (StepCase a)) = step_whole j next l text a
  of_whole text next l (Err e) = end_whole _

  reading_moves : j.at ≤ (reading_of w j).next
  reading_moves = go (reading_of w j) (read_either w j.at (came_before j))
    where
      go : (r : Reading) → WellFormed w j.at (came_before j) r ⊎ (r ≡ refused_at j.at) → j.at ≤ r.next
      go r (inl x) = let m = (well_formed_moves w j.at (came_before j) r x).0 in omega arith
      go r (inr e) = rw e (omega arith)

-- what the reading is in the whole input
reading_whole : (s : List ℕ) → AreBytes s → (w : List ℕ) (j : Job) → Window s j.before w → Ready s w j → reading_of s (in_whole j) ≡ moved_to j.at (offset_of j) (reading_of w j)
reading_whole s bytes w j window ready = window_reads s bytes j.before w window j.at ready (came_before j)

-- the law
pub record_window : (text : StepText) (s : List ℕ) → AreBytes s → (w : List ℕ) (j : Job) → Window s j.before w → j.at ≤ length w → Ready s w j → run_record text s (in_whole j) ≡ run_in_whole (run_record text w j)
unfolding run_record
record_window text s bytes w j window placed ready =
    rw (reading_whole s bytes w j window ready) (of_whole s w j placed window.inside ready text (reading_of w j).next (reading_moves s w j placed window.inside ready) (reading_of w j).content)
