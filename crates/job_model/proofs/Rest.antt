-- Proves what the loops over a job's records cite (01, Job): what is left of a job is its next record, and then what is left after it.
use Prim.Native.Nat.{ℕ, zero, suc, ◌-◌, ◌≤◌}
use native.Mathlib.Omega.{arith}
use native.Mathlib.Nat.{sub-zero}
use native.Mathlib.Numerals.{add-one}
use mathlib.Core.Bool.{Bool, true, false, true≢false}
use mathlib.Core.List.{[]}
use mathlib.Core.Path.{◌≡◌, refl, ap}
use Rattle.job_model.specs.declared.Job.{Job}
use Rattle.job_model.specs.Job.{RecordRun, start_job, followed, run_from, run_all}
use Rattle.job_model.proofs.Moves.{Moves}
use Rattle.job_model.proofs.Ends.{Within, records_left, record_within, record_less}

-- what is left of a job: where it ends, and what it still prints
unfoldable pub rest_of : (Job → RecordRun) → ℕ → Job → RecordRun
rest_of f size j = run_from f (records_left size j.ended j.at) j.ended j

pub rest_start : (f : Job → RecordRun) (size : ℕ) → rest_of f size start_job ≡ run_all f size
unfolding rest_of run_all
rest_start f size = rw (sub-zero, add-one)

pub rest_ended : (f : Job → RecordRun) (size : ℕ) (j : Job) → j.ended ≡ true → rest_of f size j ≡ record { job = j; text = [] }
unfolding rest_of run_from
rest_ended f size j e = rw e

module _ (f : Job → RecordRun) (size : ℕ) (moves : (j : Job) → Moves j size (f j)) where
  -- once there are records enough, more of them change nothing
  same : (k m : ℕ) (ended : Bool) (j : Job) → j.ended ≡ ended → Within size j → records_left size ended j.at ≤ k → records_left size ended j.at ≤ m → run_from f k ended j ≡ run_from f m ended j
  unfolding run_from
  same zero zero ended j e w l h = refl
  same zero (suc m) true j e w l h = refl
  same zero (suc m) false j e w l h = absurd (omega arith)
  same (suc k) zero true j e w l h = refl
  same (suc k) zero false j e w l h = absurd (omega arith)
  same (suc k) (suc m) true j e w l h = refl
  same (suc k) (suc m) false j e w l h =
      let t = f j in
      let less = record_less f size moves j w e in
      ap (followed t) (same k m t.job.ended t.job refl (record_within f size moves j w) (omega arith) (omega arith))

  from_next : (b : Bool) (j : Job) → b ≡ false → j.ended ≡ false → Within size j → run_from f (records_left size b j.at) b j ≡ followed (f j) (rest_of f size (f j).job)
  unfolding rest_of run_from
  from_next true j g e w = absurd (true≢false g)
  from_next false j g e w =
      let t = f j in
      let less = record_less f size moves j w e in
      ap (followed t) (same (size - j.at) (records_left size t.job.ended t.job.at) t.job.ended t.job refl (record_within f size moves j w) (omega arith) (omega arith))

  pub rest_next : (j : Job) → Within size j → j.ended ≡ false → rest_of f size j ≡ followed (f j) (rest_of f size (f j).job)
  unfolding rest_of
  rest_next j w e = from_next j.ended j e e w
