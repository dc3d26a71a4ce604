-- Proves that windows taken as `take_window` takes them tell the whole input (01, Job), where the system hands over the input's bytes one after the other: what is
-- kept of a window is the input from the next record on.
use Prim.Native.Nat.{ℕ, ◌+◌, ◌-◌, ◌≤◌, ◌<◌}
use native.Mathlib.Omega.{arith}
use mathlib.Core.Bool.{Bool, true, false}
use mathlib.Core.List.{List, ◌++◌}
use mathlib.Core.Path.{◌≡◌, refl, sym, ap, ◌∙◌}
use borrow.Author.Tests.{ltb-true, ltb-false}
use lib.Dec.{ltb}
use lib.ListN.{length, get_or, take, drop, length-drop}
use lib.Seq.{get_or-take, get_or-drop, length-take-le}
use Rattle.job_records.specs.Bytes.{byte_at}
use Rattle.job_records.specs.Windows.{Window}
use Rattle.job_model.specs.declared.Job.{Job}
use Rattle.job_model.specs.Job.{RecordRun}
use Rattle.job_model.specs.Windows.{window_records, Windowed, another}
use Rattle.input_window.specs.declared.Next.{Next}
use Rattle.input_window.specs.Window.{max_window}
use Rattle.job_windows.specs.Input.{Taken, Fed}

-- what lies after a place in a window is a window too
later : (s : List ℕ) (k : ℕ) (w : List ℕ) → Window s k w → (at : ℕ) → at ≤ length w → Window s (k + at) (drop at w)
later s k w v at l =
    let n = length-drop at w in
    let inside = v.inside in
    record { inside = omega arith; same = same }
  where
    same : (i : ℕ) → i < length (drop at w) → byte_at (drop at w) i ≡ byte_at s (k + at + i)
    same i h =
        let n = length-drop at w in
        let e : k + (at + i) ≡ k + at + i = omega arith in
        get_or-drop at w i 0 ∙ v.same (at + i) (omega arith) ∙ ap (byte_at s) e

-- a window whose first bytes are held, and the others fed
module _ (s : List ℕ) (k held : ℕ) (before w : List ℕ) (long : held ≤ length before) (kept : Window s k (take held before)) (keeps : take held w ≡ take held before) (fed : Fed s k held w) where
  first : (i : ℕ) → i < held → byte_at w i ≡ byte_at s (k + i)
  first i l =
      let n = length-take-le held before long in
      sym (get_or-take held w i 0 l) ∙ ap (λ (xs : List ℕ). get_or xs i 0) keeps ∙ kept.same i (omega arith)

  others : (i : ℕ) → i < length w → held ≤ i → byte_at w i ≡ byte_at s (k + i)
  others i l h =
      let n = length-drop held w in
      let e : held + (i - held) ≡ i = omega arith in
      let e' : k + held + (i - held) ≡ k + i = omega arith in
      sym (ap (byte_at w) e) ∙ sym (get_or-drop held w (i - held) 0) ∙ fed.next.same (i - held) (omega arith) ∙ ap (byte_at s) e'

  each : (i : ℕ) → i < length w → (b : Bool) → ltb i held ≡ b → byte_at w i ≡ byte_at s (k + i)
  each i l true t = first i (ltb-true i held t)
  each i l false t = others i l (ltb-false i held t)

  whole_window : Window s k w
  whole_window =
      let a = fed.next.inside in
      let b = length-drop held w in
      let c = fed.longer in
      record { inside = omega arith; same = λ i l. each i l (ltb i held) refl }

module _ (f : List ℕ → Job → RecordRun) (s : List ℕ) (j : Job) (text : List ℕ) (told : Windowed f s j text) (held : ℕ) (before after : List ℕ) (r : Next) (t : Taken f held before after j r) (long : held ≤ length before) (kept : Window s j.before (take held before)) (fed : Fed s j.before held t.w) where
  abbrev run : RecordRun
  run = window_records f t.w (ltb (length t.w) max_window) t.records j

  window : Window s j.before t.w
  window = whole_window s j.before held before t.w long kept t.keeps fed

  -- one window more of the input is told
  pub next_told : Windowed f s r.job (text ++ run.text)
  next_told = rw t.goes (another j text told t.w (ltb (length t.w) max_window) window fed.short t.records)

  -- and what is kept for the next window is the input from where the job stands
  pub next_kept : Window s r.job.before (take r.held after)
  next_kept =
      let place : r.job.before ≡ j.before + run.job.at = ap (λ (i : Job). i.before) t.goes ∙ ap (λ (n : ℕ). n + run.job.at) t.stays in
      rw (t.leaves, place) (later s j.before t.w window run.job.at t.within)
