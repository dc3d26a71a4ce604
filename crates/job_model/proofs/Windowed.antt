-- Proves that a job told window by window prints what the whole job prints, however the input falls into windows (01, Job).
use Prim.Native.Nat.{ℕ, zero, suc, ◌+◌, ◌*◌, ◌≤◌}
use native.Mathlib.Omega.{arith}
use mathlib.Core.Bool.{Bool, true, false, cond, not, ◌&&◌, ◌||◌}
use mathlib.Core.List.{List, [], append_assoc, append-nil}
use mathlib.Core.Logic.{inl, inr}
use mathlib.Core.Path.{◌≡◌, refl, sym, ap, subst, ◌∙◌}
use borrow.Author.Tests.{leb-true, not-true}
use lib.Dec.{leb}
use lib.ListN.{length}
use Rattle.job_records.specs.Windows.{Window, AreBytes, max_record, is_ready}
use Rattle.numeric.specs.Holds.{both}
use Rattle.job_model.specs.declared.Job.{Job}
use Rattle.job_model.specs.Job.{RecordRun, offset_of, followed, StepText, step_figures, run_record, record_run, run_all, job_text}
use Rattle.job_model.specs.Windows.{in_whole, run_in_whole, moved_up, run_ready, window_records, window_run, Windowed, begun, another}
use Rattle.job_model.proofs.Moves.{Moves, record_moves}
use Rattle.job_model.proofs.Ends.{Within, records_left, record_within, record_before, record_less}
use Rattle.job_model.proofs.Rest.{rest_of, rest_start, rest_next, rest_ended}
use Rattle.job_model.proofs.RecordWindow.{Ready, record_window}

-- what records do: they move on as a job's do, and do in a window what they do in the whole input
pub record Windows (f : List ℕ → Job → RecordRun) (s : List ℕ) : Type 0 where
  pub moves : (bytes : List ℕ) (j : Job) → Moves j (length bytes) (f bytes j)
  pub whole : (w : List ℕ) (j : Job) → Window s j.before w → j.at ≤ length w → Ready s w j → f s (in_whole j) ≡ run_in_whole (f w j)

module _ (f : List ℕ → Job → RecordRun) (s : List ℕ) (law : Windows f s) where
  -- what is left of the whole input, seen from a job in a window
  abbrev left : Job → RecordRun
  left j = rest_of (f s) (length s) (in_whole j)

  -- one window, k bytes on in the input
  module _ (k : ℕ) (w : List ℕ) (last : Bool) (window : Window s k w) (honest : last ≡ true → k + length w ≡ length s) where
    abbrev run : ℕ → Job → RecordRun
    run n j = run_ready (f w) (is_ready w last) n j

    ready : (j : Job) → j.before ≡ k → is_ready w last j.at ≡ true → Ready s w j
    ready j e t = go last refl t
      where
        go : (b : Bool) → last ≡ b → (b || leb (j.at + max_record) (length w)) ≡ true → Ready s w j
        go true q t = inl (rw e (honest q))
        go false q t = inr (leb-true _ _ t)

    seen : (j : Job) → j.before ≡ k → Within (length w) j → Within (length s) (in_whole j)
    seen j e x =
        let p = x.placed in
        let c = x.counted in
        let i = window.inside in
        record { placed = omega arith; counted = omega arith }

    -- a record that is run here: what was left is what it prints, and then what is left after it
    record_left : (j : Job) → j.before ≡ k → Within (length w) j → (not j.ended && is_ready w last j.at) ≡ true → left j ≡ followed (f w j) (left (f w j).job)
    record_left j e x t =
        let p = both (not j.ended) _ t in
        let one = rest_next (f s) (length s) (law.moves s) (in_whole j) (seen j e x) (not-true _ p.0) in
        one ∙ rw (law.whole w j (rw e window) x.placed (ready j e p.1))

    -- where the run of a window stands, and what was left before it
    pub record Run (j : Job) (r : RecordRun) : Type 0 where
      pub leaves : left j ≡ followed r (left r.job)
      pub within : Within (length w) r.job
      pub before : r.job.before ≡ k

    stays : (j : Job) → j.before ≡ k → Within (length w) j → Run j (record { job = j; text = [] })
    stays j e x = record { leaves = refl; within = x; before = e }

    goes : (j : Job) → j.before ≡ k → Within (length w) j → (not j.ended && is_ready w last j.at) ≡ true → (r : RecordRun) → Run (f w j).job r → Run j (followed (f w j) r)
    goes j e x t r rest = record {
      leaves = record_left j e x t ∙ rw (rest.leaves, append_assoc (f w j).text r.text (left r.job).text);
      within = rest.within;
      before = rest.before;
    }

    run_runs : (n : ℕ) (j : Job) → j.before ≡ k → Within (length w) j → Run j (run n j)
    unfolding run_ready
    run_runs zero j e x = stays j e x
    run_runs (suc n) j e x =
        go (λ t. goes j e x t (run n (f w j).job) (run_runs n (f w j).job (record_before (f w) (length w) (law.moves w) j x ∙ e) (record_within (f w) (length w) (law.moves w) j x))) (not j.ended && is_ready w last j.at) refl
      where
        go : ((not j.ended && is_ready w last j.at) ≡ true → Run j (followed (f w j) (run n (f w j).job))) → (b : Bool) → (not j.ended && is_ready w last j.at) ≡ b → Run j (cond b (followed (f w j) (run n (f w j).job)) (record { job = j; text = [] }))
        go g true t = g t
        go g false t = stays j e x

  -- where an input stands that is told window by window
  pub record Told (j : Job) (text : List ℕ) : Type 0 where
    pub begins : j.at ≡ 0
    pub counted : 16 * j.steps ≤ j.before
    pub placed : j.before ≤ length s
    pub whole : followed (record { job = j; text = text }) (left j) ≡ run_all (f s) (length s)

  same_left : (j : Job) → left (moved_up j) ≡ left j
  same_left j = let e : offset_of j + 0 ≡ offset_of j = omega arith in rw e

  pub told : (j : Job) (text : List ℕ) → Windowed f s j text → Told j text
  told j text begun = record { begins = refl; counted = omega arith; placed = omega arith; whole = rest_start (f s) (length s) }
  told _ _ (another j text d w last window honest n) =
      let i = told j text d in
      let a = i.begins in
      let c = i.counted in
      let r = window_records f w last n j in
      let x : Run j.before w last window honest j r = run_runs j.before w last window honest n j refl (record { placed = omega arith; counted = omega arith }) in
      let b = x.before in
      let y = x.within.counted in
      let z = x.within.placed in
      let v = window.inside in
      record {
        begins = refl;
        counted = y;
        placed = omega arith;
        whole = rw (same_left r.job, append_assoc text r.text (left r.job).text) (sym (ap (followed (record { job = j; text = text })) x.leaves) ∙ i.whole);
      }

  -- a job that has ended has printed the whole
  pub windowed_whole : (j : Job) (text : List ℕ) → Windowed f s j text → j.ended ≡ true → text ≡ (run_all (f s) (length s)).text
  windowed_whole j text d e =
      let i = told j text d in
      let none = rest_ended (f s) (length s) (in_whole j) e in
      sym (append-nil text) ∙ rw none at (ap (λ (t : RecordRun). t.text) i.whole)

  -- the last window ends the job: all that is left can be read in it
  last_ends : (w : List ℕ) (n : ℕ) (j : Job) → Within (length w) j → (b : Bool) → j.ended ≡ b → records_left (length w) b j.at ≤ n → (run_ready (f w) (is_ready w true) n j).job.ended ≡ true
  unfolding run_ready
  last_ends w zero j x true e l = e
  last_ends w zero j x false e l = absurd (omega arith)
  last_ends w (suc n) j x true e l = rw e refl
  last_ends w (suc n) j x false e l =
      let less = record_less (f w) (length w) (law.moves w) j x e in
      let next = (f w j).job in
      subst (λ (b : Bool). (cond (not b && is_ready w true j.at) (followed (f w j) (run_ready (f w) (is_ready w true) n next)) (record { job = j; text = [] })).job.ended ≡ true) (sym e)
      (last_ends w n next (record_within (f w) (length w) (law.moves w) j x) next.ended refl (omega arith))

  pub last_window_ends : (j : Job) (text : List ℕ) → Windowed f s j text → (w : List ℕ) → (window_run f w true j).job.ended ≡ true
  last_window_ends j text d w =
      let i = told j text d in
      let a = i.begins in
      let c = i.counted in
      last_ends w (length w + 1) j (record { placed = omega arith; counted = omega arith }) j.ended refl (few j.ended)
    where
      few : (b : Bool) → records_left (length w) b j.at ≤ length w + 1
      few true = omega arith
      few false = omega arith

-- ---- the theorem, for what a job prints

pub record_windows : (text : StepText) (s : List ℕ) → AreBytes s → Windows (run_record text) s
record_windows text s bytes = record { moves = λ b j. record_moves j _ b; whole = record_window text s bytes }

-- a job that is told window by window to its end prints what the whole job prints
pub job_windowed : (s : List ℕ) → AreBytes s → (j : Job) (text : List ℕ) → Windowed record_run s j text → j.ended ≡ true → text ≡ job_text s
job_windowed s bytes = windowed_whole record_run s (record_windows step_figures s bytes)

-- and the last window takes it to its end
pub job_last_ends : (s : List ℕ) → AreBytes s → (j : Job) (text : List ℕ) → Windowed record_run s j text → (w : List ℕ) → (window_run record_run w true j).job.ended ≡ true
job_last_ends s bytes = last_window_ends record_run s (record_windows step_figures s bytes)
