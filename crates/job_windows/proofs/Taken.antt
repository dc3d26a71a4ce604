-- Proves how a window was taken (01, Job) from what its parts did: the buffer filled after the bytes held, the records run, and what they leave moved down.
use Prim.Native.Nat.{ℕ, ◌+◌, ◌*◌, ◌-◌, ◌≤◌, ◌<◌}
use native.Mathlib.Omega.{arith}
use mathlib.Core.Bool.{Bool}
use mathlib.Core.List.{List}
use mathlib.Core.Path.{◌≡◌, refl, sym, ap, subst, ◌∙◌}
use lib.Dec.{ltb}
use lib.ListN.{length, take, drop}
use lib.Seq.{length-take-le, take-take}
use Rattle.std.specs.Prelude.{Ok}
use Rattle.job_records.specs.Windows.{is_ready}
use Rattle.job_model.specs.declared.Job.{Job}
use Rattle.job_model.specs.declared.Ran.{Ran}
use Rattle.job_model.specs.Job.{StepText, run_record, start_job}
use Rattle.job_model.specs.Windows.{moved_up, run_ready, WindowHanded}
use Rattle.job_model.proofs.Ends.{Within}
use Rattle.job_model.proofs.WindowLoop.{run_within}
use Rattle.input_window.specs.declared.Next.{Next}
use Rattle.input_window.specs.Window.{max_window, next_window, Left}
use Rattle.input_window.proofs.Moved.{moved_length, moved_first}
use Rattle.job_windows.specs.Input.{Open, WindowTaken}
use Rattle.job_windows.proofs.Told.{lines_move}

module _ (text : StepText) (held count : ℕ) (xs filled : List ℕ) (j : Job) (open_at : Open xs held j) (keeps : take held filled ≡ take held xs) (size : length filled ≡ length xs) (fits : held + count ≤ length xs) where
  abbrev pub end : ℕ
  end = held + count

  abbrev pub window : List ℕ
  window = take end filled

  pub window_length : length window ≡ end
  window_length = length-take-le end filled (omega arith)

  pub stands : Within (length window) j
  stands =
      let a = open_at.2 in
      let c = open_at.3 in
      record { placed = omega arith; counted = omega arith }

  abbrev last : Bool
  last = ltb end (length filled)

  same_last : last ≡ ltb (length window) max_window
  same_last = let e : length filled ≡ max_window = size ∙ open_at.0 in rw (window_length, e)

  module _ (r : Ran) (run : WindowHanded (run_record text window) (is_ready window last) j (Ok r)) where
    pub ran_within : (r.job.at ≤ end) × (16 * r.job.steps ≤ r.job.before + r.job.at) × (r.job.before ≡ j.before)
    ran_within =
        let x = run_within (run_record text window) (is_ready window last) (length window) (lines_move text window) run.records j stands in
        let w : Within (length window) r.job = rw run.goes at x.0 in
        let p = w.placed in
        let l = window_length in
        (omega arith, w.counted, rw run.goes at x.1)

    -- the next window: what is left of this one, moved down
    module _ (down : List ℕ) (next : Next) (left : Left filled down r.job end next) where
      at_job : (run_ready (run_record text window) (is_ready window last) run.records j).job.at ≡ r.job.at
      at_job = ap (λ (i : Job). i.at) run.goes

      pub moved_size : length down ≡ length xs
      moved_size =
          let p = ran_within.0 in
          ap length left.down ∙ moved_length r.job.at filled (end - r.job.at) (omega arith) ∙ size

      first : take (end - r.job.at) down ≡ drop r.job.at window
      first =
          let p = ran_within.0 in
          let e : r.job.at + (end - r.job.at) ≡ end = omega arith in
          ap (take (end - r.job.at)) left.down ∙ moved_first r.job.at filled (end - r.job.at) (omega arith) ∙ ap (λ (n : ℕ). drop r.job.at (take n filled)) e

      taken_next : WindowTaken (run_record text) held xs down j (Ok (next_window r.job end))
      taken_next =
          let p = ran_within.0 in
          let q = ran_within.1 in
          let l = window_length in
          let s = same_last in
          record {
            size = moved_size;
            taken = record {
              w = window;
              records = run.records;
              keeps = take-take held end filled (omega arith) ∙ keeps;
              fits = let o = open_at.0 in omega arith;
              goes = rw (← s) (ap moved_up (sym run.goes));
              stops = rw (← s) run.told.stops;
              stays = rw (← s) (ap (λ (i : Job). i.before) run.goes ∙ ran_within.2);
              within = rw (← s, at_job) (omega arith);
              leaves = rw (← s, at_job) first;
              holds = rw (← s, at_job) (omega arith);
              counted = omega arith;
            };
          }

      pub taken : WindowTaken (run_record text) held xs down j (Ok next)
      taken = subst (λ (n : Next). WindowTaken (run_record text) held xs down j (Ok n)) (sym left.next) taken_next

-- ---- the loop over windows: the next is open, and no window but the last is counted twice
pub record Going (buf : List ℕ) (j : Job) (held windows : ℕ) : Type 0 where
  pub is_open : Open buf held j
  pub few : j.before ≤ 1048576 * windows

pub going_start : (buf : List ℕ) → length buf ≡ max_window → (j : Job) → j ≡ start_job → Going buf j 0 0
going_start buf e j s = record { is_open = (e, omega arith, rw s refl, rw s (omega arith), rw s (omega arith)); few = rw s (omega arith) }

pub going_next : (text : StepText) (before after : List ℕ) (j : Job) (held windows : ℕ) (n : Next) → Going before j held windows → windows < 4294967296 → WindowTaken (run_record text) held before after j (Ok n) → Going after n.job n.held (windows + 1)
going_next text before after j held windows n g l t =
    let w = t.taken in
    let start = g.is_open in
    let a = start.2 in
    let c = start.3 in
    let at = w.within in
    let before' = w.stays in
    let size = t.size in
    let whole = start.0 in
    let fits = w.fits in
    let held' = w.holds in
    let few = g.few in
    let next = ap (λ (i : Job). i.before) w.goes in
    let steps = w.counted in
    record {
      is_open = (omega arith, omega arith, rw w.goes refl, steps, omega arith);
      few = omega arith;
    }
