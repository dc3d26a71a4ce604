-- Proves what the loop over a window's records cites (01, Job): one record more, the end of the run, and that there is only one end.
use Prim.Native.Nat.{ℕ, zero, suc, ◌+◌, ◌*◌, ◌≤◌, ◌<◌}
use native.Mathlib.Omega.{arith}
use mathlib.Core.Bool.{Bool, true, false, cond, not, ◌&&◌, true≢false}
use mathlib.Core.List.{[], append_assoc, append-nil}
use mathlib.Core.Path.{◌≡◌, refl, sym, ap, ◌∙◌}
use borrow.Author.Tests.{not-true}
use lib.ListN.{length, length-append}
use Rattle.numeric.specs.Holds.{both}
use Rattle.job_lines.specs.Lengths.{max_text}
use Rattle.job_model.specs.declared.Job.{Job}
use Rattle.job_model.specs.Job.{RecordRun, followed}
use Rattle.job_model.specs.Windows.{run_ready, Stops, CutRecords}
use Rattle.job_model.proofs.Moves.{Moves}
use Rattle.job_model.proofs.Ends.{Within, records_left, record_within, record_before, record_less}

module _ (f : Job → RecordRun) (ready : ℕ → Bool) where
  abbrev pub goes_on : Job → Bool
  goes_on j = not j.ended && ready j.at

  -- one record more is the next record of the job that the first ones left
  one_more : (n : ℕ) (j : Job) → goes_on (run_ready f ready n j).job ≡ true → run_ready f ready (suc n) j ≡ followed (run_ready f ready n j) (f (run_ready f ready n j).job)
  unfolding run_ready
  one_more zero j g = rw (g, append-nil)
  one_more (suc n) j g = go (goes_on j) refl g (one_more n (f j).job)
    where
      go : (b : Bool) → goes_on j ≡ b → goes_on (cond b (followed (f j) (run_ready f ready n (f j).job)) (record { job = j; text = [] })).job ≡ true → (goes_on (run_ready f ready n (f j).job).job ≡ true → run_ready f ready (suc n) (f j).job ≡ followed (run_ready f ready n (f j).job) (f (run_ready f ready n (f j).job).job)) → cond b (followed (f j) (run_ready f ready (suc n) (f j).job)) (record { job = j; text = [] }) ≡ followed (cond b (followed (f j) (run_ready f ready n (f j).job)) (record { job = j; text = [] })) (f (cond b (followed (f j) (run_ready f ready n (f j).job)) (record { job = j; text = [] })).job)
      go true e g more = rw (more g, append_assoc)
      go false e g more = absurd (true≢false (sym g ∙ e))

  -- a run that has come to its end stays there: there is only one
  pub run_once : (n m : ℕ) (j : Job) → Stops ready (run_ready f ready n j) → Stops ready (run_ready f ready m j) → run_ready f ready n j ≡ run_ready f ready m j
  unfolding run_ready
  run_once zero zero j p q = refl
  run_once zero (suc m) j p q = rw p
  run_once (suc n) zero j p q = rw q
  run_once (suc n) (suc m) j p q = go (goes_on j) p q (run_once n m (f j).job)
    where
      go : (b : Bool) → Stops ready (cond b (followed (f j) (run_ready f ready n (f j).job)) (record { job = j; text = [] })) → Stops ready (cond b (followed (f j) (run_ready f ready m (f j).job)) (record { job = j; text = [] })) → (Stops ready (run_ready f ready n (f j).job) → Stops ready (run_ready f ready m (f j).job) → run_ready f ready n (f j).job ≡ run_ready f ready m (f j).job) → cond b (followed (f j) (run_ready f ready n (f j).job)) (record { job = j; text = [] }) ≡ cond b (followed (f j) (run_ready f ready m (f j).job)) (record { job = j; text = [] })
      go true p q same = rw (same p q)
      go false p q same = refl

  -- where the loop over a window of `size` bytes stands: after some records, whose lines were all taken
  pub record Running (size : ℕ) (j₀ j : Job) (taken : ℕ) : Type 0 where
    pub records : ℕ
    pub goes : (run_ready f ready records j₀).job ≡ j
    pub counts : length (run_ready f ready records j₀).text ≡ taken
    pub within : Within size j
    pub before : j.before ≡ j₀.before
    pub few : taken + max_text * records_left size j.ended j.at ≤ max_text * suc size

  pub running_start : (size : ℕ) (j : Job) → Within size j → Running size j j 0
  unfolding run_ready
  running_start size j w = record { records = 0; goes = refl; counts = refl; within = w; before = refl; few = few j.ended }
    where
      few : (b : Bool) → 0 + max_text * records_left size b j.at ≤ max_text * suc size
      few true = omega arith
      few false = omega arith

  module _ (size : ℕ) (moves : (j : Job) → Moves j size (f j)) (j₀ j : Job) (taken : ℕ) (r : Running size j₀ j taken) (on : goes_on j ≡ true) where
    not_ended : j.ended ≡ false
    not_ended = not-true _ (both (not j.ended) (ready j.at) on).0

    next : run_ready f ready (suc r.records) j₀ ≡ followed (run_ready f ready r.records j₀) (f j)
    next = one_more r.records j₀ (ap goes_on r.goes ∙ on) ∙ ap (λ (i : Job). followed (run_ready f ready r.records j₀) (f i)) r.goes

    longer : length (run_ready f ready (suc r.records) j₀).text ≡ taken + length (f j).text
    longer = ap (λ (t : RecordRun). length t.text) next ∙ length-append (run_ready f ready r.records j₀).text (f j).text ∙ ap (λ (n : ℕ). n + length (f j).text) r.counts

    -- the record's lines were taken to their end
    pub running_next : (more : ℕ) → more ≡ length (f j).text → more ≤ max_text → Running size j₀ (f j).job (taken + more)
    running_next more e l =
        let left : taken + max_text * records_left size false j.at ≤ max_text * suc size = rw not_ended at r.few in
        let less = record_less f size moves j r.within not_ended in
        record {
          records = suc r.records;
          goes = ap (λ (t : RecordRun). t.job) next;
          counts = rw e longer;
          within = record_within f size moves j r.within;
          before = record_before f size moves j r.within ∙ r.before;
          few = omega arith;
        }

    -- they were not
    pub running_cut : (more : ℕ) → more < length (f j).text → CutRecords f ready r.records j₀ (taken + more)
    running_cut more l = let c = r.counts in let n = longer in record { before = omega arith; within = omega arith }

  -- however many records are run, the job stays within the window, and that where it is in the input
  pub run_within : (size : ℕ) → ((j : Job) → Moves j size (f j)) → (n : ℕ) (j : Job) → Within size j → Within size (run_ready f ready n j).job × ((run_ready f ready n j).job.before ≡ j.before)
  unfolding run_ready
  run_within size moves zero j w = (w, refl)
  run_within size moves (suc n) j w =
      let more = run_within size moves n (f j).job (record_within f size moves j w) in
      go (goes_on j) (more.0, more.1 ∙ record_before f size moves j w)
    where
      go : (b : Bool) → Within size (run_ready f ready n (f j).job).job × ((run_ready f ready n (f j).job).job.before ≡ j.before) → let t = cond b (followed (f j) (run_ready f ready n (f j).job)) (record { job = j; text = [] }) in Within size t.job × (t.job.before ≡ j.before)
      go true more = more
      go false more = (w, refl)
