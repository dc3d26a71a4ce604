-- Proves that a job ends (01, Job): each record but the last moves the position on, so that the records that the definition allows are enough.
use Prim.Native.Nat.{ℕ, zero, suc, ◌+◌, ◌-◌, ◌*◌, ◌≤◌, ◌<◌}
use native.Mathlib.Omega.{arith}
use mathlib.Core.Bool.{Bool, true, false, cond}
use mathlib.Core.List.{List}
use mathlib.Core.Logic.{inl, inr}
use mathlib.Core.Path.{◌≡◌, refl}
use lib.ListN.{length}
use Rattle.job_model.specs.declared.Job.{Job}
use Rattle.job_model.specs.Job.{RecordRun, start_job, record_run, run_from, run_all, job_run}
use Rattle.job_model.proofs.Moves.{Moves, record_moves}

-- a job stands within its input of `size` bytes, and has counted no more steps than records can have passed
pub record Within (size : ℕ) (j : Job) : Type 0 where
  pub placed : j.at ≤ size
  pub counted : 16 * j.steps ≤ j.before + j.at

-- how many records it can still take: none if it has ended
abbrev pub records_left : ℕ → Bool → ℕ → ℕ
records_left size ended at = cond ended 0 (suc (size - at))

pub start_within : (size : ℕ) → Within size start_job
start_within size = record { placed = omega arith; counted = omega arith }

-- an f of any kind that moves as a record does
module _ (f : Job → RecordRun) (size : ℕ) (moves : (j : Job) → Moves j size (f j)) (j : Job) (w : Within size j) where
  pub record_within : Within size (f j).job
  record_within = go (f j) (moves j)
    where
      go : (t : RecordRun) → Moves j size t → Within size t.job
      go t (inl e) = record { placed = rw e.1 w.placed; counted = rw (e.1, e.2, e.3) w.counted }
      go t (inr m) = let c = w.counted in let p = m.1 in let q = m.3 in let b = m.4 in record { placed = m.2; counted = omega arith }

  pub record_before : (f j).job.before ≡ j.before
  record_before = go (f j) (moves j)
    where
      go : (t : RecordRun) → Moves j size t → t.job.before ≡ j.before
      go t (inl e) = e.3
      go t (inr m) = m.4

  pub record_less : j.ended ≡ false → records_left size (f j).job.ended (f j).job.at < size - j.at + 1
  record_less e = go (f j) (moves j)
    where
      go : (t : RecordRun) → Moves j size t → records_left size t.job.ended t.job.at < size - j.at + 1
      go t (inl e) = rw e.0 (omega arith)
      go t (inr m) = let p = m.1 in let l = m.2 in rw (m.0, e) (omega arith)

  -- as a loop's measure
  pub record_shortens : j.ended ≡ false → records_left size (f j).job.ended (f j).job.at < records_left size j.ended j.at
  record_shortens e = below j.ended e (record_less e)
    where
      below : (b : Bool) → b ≡ false → {n : ℕ} → n < size - j.at + 1 → n < records_left size b j.at
      below b g l = rw g (omega arith)

module _ (f : Job → RecordRun) (size : ℕ) (moves : (j : Job) → Moves j size (f j)) where
  -- with records enough, the job after them has ended
  from_ends : (k : ℕ) (ended : Bool) (j : Job) → j.ended ≡ ended → Within size j → records_left size ended j.at ≤ k → (run_from f k ended j).job.ended ≡ true
  unfolding run_from
  from_ends zero true j e w l = e
  from_ends zero false j e w l = absurd (omega arith)
  from_ends (suc k) true j e w l = e
  from_ends (suc k) false j e w l =
      let t = f j in
      let less = record_less f size moves j w e in
      from_ends k t.job.ended t.job refl (record_within f size moves j w) (omega arith)

  pub run_ends : (run_all f size).job.ended ≡ true
  unfolding run_all
  run_ends = from_ends (size + 1) false start_job refl (start_within size) (omega arith)

-- the law
pub job_ends : (bytes : List ℕ) → (job_run bytes).job.ended ≡ true
job_ends bytes = run_ends (record_run bytes) (length bytes) (λ j. record_moves j _ bytes)
