-- Proves that a record ends the job where it stands, or moves on to a position within the input and counts at most one step (01, Job: indexes count all steps).
use Prim.Native.Nat.{ℕ, ◌+◌, ◌≤◌}
use native.Mathlib.Omega.{arith}
use mathlib.Core.Bool.{Bool, true, false, cond, not, ◌&&◌}
use mathlib.Core.List.{List, []}
use mathlib.Core.Logic.{◌⊎◌, inl, inr}
use Rattle.std.specs.Prelude.{Result, Ok, Err}
use Rattle.refusals.specs.Refusals.{number_in}
use Rattle.refusals.specs.declared.Refusal.{Refusal}
use mathlib.Core.Path.{◌≡◌, refl}
use lib.ListN.{length}
use lib.Dec.{eqb}
use Rattle.tank_model.specs.declared.Heater.{Heater}
use Rattle.tank_model.specs.declared.TankDesign.{TankDesign}
use Rattle.tank_model.specs.declared.Step.{Step}
use Rattle.tank_model.specs.Checks.{heaters_check}
use Rattle.storage_tank.specs.Calls.{made}
use Rattle.job_records.specs.declared.Record.{Record}
use Rattle.job_records.specs.declared.Record.TheVariants.{Tank, Heater as HeaterCase, Step as StepCase}
use Rattle.job_records.specs.declared.Reading.{Reading}
use Rattle.job_records.specs.WellFormed.{WellFormed}
use Rattle.job_records.specs.Records.{design_of, refused_at}
use Rattle.job_records.proofs.ReadLaws.{read_either, well_formed_moves}
use Rattle.job_model.specs.declared.Job.{Job}
use Rattle.job_model.specs.Job.{RecordRun, with_heater, came_before, reading_of, ended_job, offset_of, with_tank, refused_run, made_run, heater_run, StepText, step_run, end_run, run_of, run_record}

-- the job ends here, with no step more
abbrev pub Ends : Job → RecordRun → Type 0
Ends j t = (t.job.ended ≡ true) × (t.job.at ≡ j.at) × (t.job.steps ≡ j.steps) × (t.job.before ≡ j.before)

-- it goes on at `next`, with one step more at most
abbrev GoesOn : Job → ℕ → RecordRun → Type 0
GoesOn j next t = (t.job.ended ≡ j.ended) × (t.job.at ≡ next) × (t.job.steps ≤ j.steps + 1) × (t.job.before ≡ j.before)

-- it goes on within the input, past a record of 16 bytes at least
abbrev pub MovesOn : ℕ → Job → RecordRun → Type 0
MovesOn size j t = (t.job.ended ≡ j.ended) × (j.at + 16 ≤ t.job.at) × (t.job.at ≤ size) × (t.job.steps ≤ j.steps + 1) × (t.job.before ≡ j.before)

either : (P : RecordRun → Type 0) (b : Bool) (x y : RecordRun) → P x → P y → P (cond b x y)
either P true x y p q = p
either P false x y p q = q

module _ (j : Job) where
  refused_ends : (n : ℕ) → Ends j (refused_run j n)
  unfolding refused_run
  refused_ends n = (refl, refl, refl, refl)

  end_ends : (size number : ℕ) → Ends j (end_run size j number)
  unfolding end_run
  end_ends size n = either (Ends j) (eqb j.at size && not (eqb (offset_of j) 0)) (record { job = ended_job j; text = [] }) (refused_run j n) (refl, refl, refl, refl) (refused_ends n)

  module _ (next : ℕ) where
    abbrev Goes : RecordRun → Type 0
    Goes t = Ends j t ⊎ GoesOn j next t

    made_goes : (d : TankDesign) → Goes (made_run j next d)
    unfolding made_run
    made_goes d =
        let m = made d in
        either Goes (eqb (number_in m.outcome) 0) (record { job = with_tank j next d m.tank; text = [] }) (refused_run j (number_in m.outcome)) (inr (refl, refl, omega arith, refl)) (inl (refused_ends (number_in m.outcome)))

    heater_goes : (h : Heater) → Goes (heater_run j next h)
    unfolding heater_run
    heater_goes h =
        let d = with_heater j.design h in
        let n = heaters_check (j.design.heaters + 1) in
        either Goes (eqb n 0) (made_run j next d) (refused_run j n) (made_goes d) (inl (refused_ends n))

    step_goes : (text : StepText) (a : Step) → Goes (step_run text j next a)
    unfolding step_run
    step_goes text a = inr (refl, refl, omega arith, refl)

    -- every step is counted, refused or not
    pub step_counted : (text : StepText) (a : Step) → (step_run text j next a).job.steps ≡ j.steps + 1
    unfolding step_run
    step_counted text a = refl

  of_goes : (text : StepText) (bytes : List ℕ) (next : ℕ) (x : Result Record Refusal) → Goes next (run_of text bytes j next x)
  unfolding run_of
  of_goes text bytes next (Ok (Tank t)) = made_goes next (design_of t)
  of_goes text bytes next (Ok (HeaterCase h)) = heater_goes next h
  of_goes text bytes next (Ok (StepCase a)) = step_goes next text a
  of_goes text bytes next (Err e) = inl (end_ends (length bytes) _)

  -- the law
  abbrev pub Moves : ℕ → RecordRun → Type 0
  Moves size t = Ends j t ⊎ MovesOn size j t

  goes_moves : (size next : ℕ) (t : RecordRun) → (j.at + 16 ≤ next) × (next ≤ size) → Goes next t → Moves size t
  goes_moves size next t l (inl e) = inl e
  goes_moves size next t l (inr g) = inr (g.0, rw g.1 l.0, rw g.1 l.1, g.2, g.3)

  pub record_moves : (text : StepText) (bytes : List ℕ) → Moves (length bytes) (run_record text bytes j)
  unfolding run_record run_of
  record_moves text bytes = go (reading_of bytes j) (read_either bytes j.at (came_before j))
    where
      go : (r : Reading) → WellFormed bytes j.at (came_before j) r ⊎ (r ≡ refused_at j.at) → Moves (length bytes) (run_of text bytes j r.next r.content)
      go r (inl w) = goes_moves (length bytes) r.next (run_of text bytes j r.next r.content) (well_formed_moves bytes j.at (came_before j) r w) (of_goes text bytes r.next r.content)
      go r (inr e) = rw e (inl (end_ends (length bytes) _))

-- whatever is printed of its steps, a job goes from record to record in the same way
pub same_job : (text other : StepText) (bytes : List ℕ) (j : Job) → (run_record text bytes j).job ≡ (run_record other bytes j).job
unfolding run_record run_of step_run
same_job text other bytes j = go (reading_of bytes j).next (reading_of bytes j).content
  where
    go : (next : ℕ) (x : Result Record Refusal) → (run_of text bytes j next x).job ≡ (run_of other bytes j next x).job
    go next (Ok (Tank t)) = refl
    go next (Ok (HeaterCase h)) = refl
    go next (Ok (StepCase a)) = refl
    go next (Err e) = refl
