-- Proves how far a job came that stops at the first write that fails (01, Job): run as one window that nothing follows, it is told as the whole of it is; and what was
-- taken of a job that was cut is a beginning of its text, and not all of it.
use Prim.Native.Nat.{ℕ, zero, suc, ◌+◌, ◌<◌}
use native.Mathlib.Omega.{arith}
use mathlib.Core.Bool.{Bool, true, false, cond, not, ◌&&◌, true≢false}
use mathlib.Core.List.{List, [], ◌++◌, append_assoc}
use mathlib.Core.Path.{◌≡◌, refl, sym, ap, ◌∙◌}
use lib.ListN.{length, length-append}
use Rattle.std.specs.Prelude.{Result, Ok, Err}
use Rattle.job_records.specs.Windows.{is_ready}
use Rattle.job_model.specs.declared.Job.{Job}
use Rattle.job_model.specs.declared.Ran.{Ran}
use Rattle.job_model.specs.declared.CutShort.{CutShort}
use Rattle.job_model.specs.Job.{RecordRun, start_job, followed, run_from, run_all}
use Rattle.job_model.specs.Handed.{first_records, Cut, Handed, Begins}
use Rattle.job_model.specs.Windows.{run_ready, Stops, WindowHanded}
use Rattle.job_model.proofs.Moves.{Moves}
use Rattle.job_model.proofs.Ends.{run_ends}
use Rattle.job_model.proofs.WindowLoop.{run_once}

module _ (f : Job → RecordRun) where
  -- what the first records print begins what a run prints that has come to its end
  begins : (k m : ℕ) (ended : Bool) (j : Job) → j.ended ≡ ended → (run_from f m ended j).job.ended ≡ true → Begins (run_from f k ended j).text (run_from f m ended j).text
  unfolding run_from
  begins zero m ended j e g = ((run_from f m ended j).text, refl)
  begins (suc k) zero true j e g = ([], refl)
  begins (suc k) zero false j e g = absurd (true≢false (sym g ∙ e))
  begins (suc k) (suc m) true j e g = ([], refl)
  begins (suc k) (suc m) false j e g =
      let t = f j in
      let b = begins k m t.job.ended t.job refl g in
      (b.0, append_assoc t.text _ b.0 ∙ ap (λ r. t.text ++ r) b.1)

-- the laws, of an f of any kind that moves as a record does
module _ (f : Job → RecordRun) (size : ℕ) (moves : (j : Job) → Moves j size (f j)) where
  pub firsts_begin : (k : ℕ) → Begins (first_records f k).text (run_all f size).text
  unfolding run_all
  firsts_begin k = begins f k (size + 1) false start_job refl (run_ends f size moves)

  pub cut_less : (j : Job) (taken : ℕ) → Cut f j taken → taken < length (run_all f size).text
  cut_less j taken c =
      let b = firsts_begin (suc c.records) in
      let w = c.within in
      let l = length-append (first_records f (suc c.records)).text b.0 in
      let e = ap length b.1 in
      omega arith

-- the records of a window that nothing follows are those of the job
module _ (f : Job → RecordRun) (w : List ℕ) where
  abbrev ready : ℕ → Bool
  ready = is_ready w true

  same_records : (n : ℕ) (ended : Bool) (j : Job) → j.ended ≡ ended → run_ready f ready n j ≡ run_from f n ended j
  unfolding run_ready run_from
  same_records zero ended j e = refl
  same_records (suc n) b j e = go b e (same_records n (f j).job.ended (f j).job refl)
    where
      go : (b : Bool) → j.ended ≡ b → run_ready f ready n (f j).job ≡ run_from f n (f j).job.ended (f j).job → cond (not j.ended && ready j.at) (followed (f j) (run_ready f ready n (f j).job)) (record { job = j; text = [] }) ≡ run_from f (suc n) b j
      go true e s = ap (λ (b : Bool). cond (not b && ready j.at) (followed (f j) (run_ready f ready n (f j).job)) (record { job = j; text = [] })) e
      go false e s = ap (λ (b : Bool). cond (not b && ready j.at) (followed (f j) (run_ready f ready n (f j).job)) (record { job = j; text = [] })) e ∙ ap (followed (f j)) s

  firsts : (n : ℕ) → run_ready f ready n start_job ≡ first_records f n
  firsts n = same_records n false start_job refl

  module _ (moves : (j : Job) → Moves j (length w) (f j)) where
    whole : (n : ℕ) → Stops ready (run_ready f ready n start_job) → run_ready f ready n start_job ≡ run_all f (length w)
    unfolding run_all
    whole n s = run_once f ready n (length w + 1) start_job s (rw (firsts (length w + 1), run_ends f (length w) moves)) ∙ firsts (length w + 1)

    pub handed_last : (r : Result Ran CutShort) → WindowHanded f ready start_job r → Handed f (length w) r
    handed_last (Ok a) h =
        let e = whole h.records h.told.stops in
        record { ends = sym h.goes ∙ ap (λ (t : RecordRun). t.job) e; takes = sym h.told.takes ∙ ap (λ (t : RecordRun). length t.text) e }
    handed_last (Err c) h = record {
      records = h.records;
      goes = sym (ap (λ (t : RecordRun). t.job) (firsts h.records)) ∙ h.goes;
      before = rw (← firsts h.records) h.told.before;
      within = rw (← firsts (suc h.records)) h.told.within;
    }
