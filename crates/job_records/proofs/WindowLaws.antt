-- Proves that a record is read in a window of an input as in the whole input (01, Job; refusal 11), where no record can reach past the window or nothing follows it.
use Prim.Native.Nat.{ℕ, ◌+◌, ◌*◌, ◌-◌, ◌≤◌, ◌<◌}
use native.Mathlib.Omega.{arith}
use mathlib.Core.Bool.{true≢false}
use mathlib.Core.List.{List}
use mathlib.Core.Logic.{◌⊎◌, inl, inr}
use mathlib.Core.Path.{◌≡◌, refl, sym, ap, ◌∙◌}
use lib.ListN.{length}
use Rattle.numeric.specs.Tabulate.{tabulate_same}
use Rattle.job_records.specs.declared.Before.{Before}
use Rattle.job_records.specs.declared.Reading.{Reading}
use Rattle.job_records.specs.Bytes.{byte_at, u16_at, u32_at, u64_at, double_at}
use Rattle.job_records.specs.Fields.{volumes_at, step_volumes_at, points_at, setting_at, settings_at}
use Rattle.job_records.specs.Values.{is_refused}
use Rattle.job_records.specs.Records.{read_to, refused_at, tank_fields_at, heater_record_at, events_at, entries_at, step_size_at, step_fields_at, step_record_at, read_record}
use Rattle.job_records.specs.WellFormed.{Stands, WellFormed, tank_record, heater_record, step_record}
use Rattle.job_records.specs.Windows.{Window, AreBytes, max_record, moved_to}
use Rattle.job_records.proofs.ReadLaws.{read_well_formed, read_either, well_formed_moves}
use Rattle.job_records.proofs.ReaderLaws.{well_formed_not_refused}

-- ---- n bytes from two positions on are the same, and so is all that is read of them

module _ (s : List ℕ) (at : ℕ) (s' : List ℕ) (at' n : ℕ) (alike : (i : ℕ) → i < n → byte_at s' (at' + i) ≡ byte_at s (at + i)) where
  byte : (p p' i : ℕ) → p ≡ at + i → p' ≡ at' + i → i < n → byte_at s' p' ≡ byte_at s p
  byte p p' i e e' l = rw (e, e') (alike i l)

  two : (p p' i : ℕ) → p ≡ at + i → p' ≡ at' + i → i + 2 ≤ n → u16_at s' p' ≡ u16_at s p
  unfolding u16_at
  two p p' i e e' l = rw (byte p p' i e e' (omega arith), byte (p + 1) (p' + 1) (i + 1) (omega arith) (omega arith) (omega arith))

  four : (p p' i : ℕ) → p ≡ at + i → p' ≡ at' + i → i + 4 ≤ n → u32_at s' p' ≡ u32_at s p
  unfolding u32_at
  four p p' i e e' l = rw (two p p' i e e' (omega arith), two (p + 2) (p' + 2) (i + 2) (omega arith) (omega arith) (omega arith))

  eight : (p p' i : ℕ) → p ≡ at + i → p' ≡ at' + i → i + 8 ≤ n → double_at s' p' ≡ double_at s p
  unfolding double_at u64_at
  eight p p' i e e' l = rw (four p p' i e e' (omega arith), four (p + 4) (p' + 4) (i + 4) (omega arith) (omega arith) (omega arith))

  double : (i : ℕ) → i + 8 ≤ n → double_at s' (at' + i) ≡ double_at s (at + i)
  double i l = eight (at + i) (at' + i) i refl refl l

  tank_alike : 64 ≤ n → tank_fields_at s' at' ≡ tank_fields_at s at
  tank_alike l =
      rw (two (at + 6) (at' + 6) 6 refl refl (omega arith), double 8 (omega arith), double 16 (omega arith), double 24 (omega arith), double 32 (omega arith), double 40 (omega arith), double 48 (omega arith), double 56 (omega arith))

  heater_alike : 31 ≤ n → heater_record_at s' at' (byte_at s' (at' + 22)) ≡ heater_record_at s at (byte_at s (at + 22))
  unfolding heater_record_at
  heater_alike l =
      rw (alike 22 (omega arith), double 6 (omega arith), double 14 (omega arith), double 23 (omega arith))

  events_alike : 16 ≤ n → events_at s' at' ≡ events_at s at
  events_alike l = two (at + 14) (at' + 14) 14 refl refl (omega arith)

  volumes_alike : (m : ℕ) → 16 + 8 * m ≤ n → step_volumes_at s' (at' + 16) m ≡ step_volumes_at s (at + 16) m
  unfolding step_volumes_at volumes_at
  volumes_alike m l =
      rw (tabulate_same (λ (i : ℕ). double_at s' (at' + 16 + 8 * i)) (λ (i : ℕ). double_at s (at + 16 + 8 * i)) m 0 (λ j a b. eight (at + 16 + 8 * j) (at' + 16 + 8 * j) (16 + 8 * j) (omega arith) (omega arith) (omega arith)))

  points_alike : (p p' i : ℕ) → p ≡ at + i → p' ≡ at' + i → i + 17 ≤ n → points_at s' p' ≡ points_at s p
  unfolding points_at
  points_alike p p' i e e' l =
      rw (byte p p' i e e' (omega arith), eight (p + 1) (p' + 1) (i + 1) (omega arith) (omega arith) (omega arith), eight (p + 9) (p' + 9) (i + 9) (omega arith) (omega arith) (omega arith))

  settings_alike : (m heaters : ℕ) → 16 + 8 * m + 17 * heaters ≤ n → settings_at s' (at' + 16 + 8 * m) heaters ≡ settings_at s (at + 16 + 8 * m) heaters
  unfolding settings_at
  settings_alike m heaters l =
      rw (tabulate_same (setting_at s' (at' + 16 + 8 * m)) (setting_at s (at + 16 + 8 * m)) heaters 0 (λ j a b. rw (points_alike (at + 16 + 8 * m + 17 * j) (at' + 16 + 8 * m + 17 * j) (16 + 8 * m + 17 * j) (omega arith) (omega arith) (omega arith))))

  -- ---- a record that is well formed at the one position is read at the other

  module _ (before : Before) (room : at' + n ≤ length s') where
    stands_alike : (kind size : ℕ) → Stands s at kind size → 4 + size ≤ n → 2 ≤ size → Stands s' at' kind size
    stands_alike kind size h l m = record {
      sized = four at at' 0 (omega arith) (omega arith) (omega arith) ∙ h.sized;
      named = two (at + 4) (at' + 4) 4 refl refl (omega arith) ∙ h.named;
      there = omega arith;
    }

    read_alike : (r : Reading) → WellFormed s at before r → r.next ≤ at + n → read_record s' at' before ≡ moved_to at at' r
    unfolding step_fields_at
    read_alike r (tank_record h t m p) l =
        let next : at' + 64 ≡ at' + (at + 64 - at) = omega arith in
        read_well_formed s' at' before _ (tank_record (stands_alike 1 60 h (omega arith) (omega arith)) t m p)
        ∙ rw (tank_alike (omega arith), next)
    read_alike r (heater_record h t m p b) l =
        let next : at' + 31 ≡ at' + (at + 31 - at) = omega arith in
        let presence : byte_at s' (at' + 22) ≤ 1 = rw (alike 22 (omega arith)) b in
        read_well_formed s' at' before _ (heater_record (stands_alike 2 27 h (omega arith) (omega arith)) t m p presence)
        ∙ rw (heater_alike (omega arith), next)
    read_alike r (step_record h t m b) l = step_alike h.sized l
      where
        step_alike : u32_at s at ≡ step_size_at s at before.heaters → at + 4 + u32_at s at ≤ at + n → read_record s' at' before ≡ moved_to at at' (read_to (step_record_at s at before.heaters) (at + 4 + u32_at s at))
        step_alike e l =
            let events = events_alike (omega arith) in
            let stands : Stands s' at' 3 (step_size_at s' at' before.heaters) = rw events (stands_alike 3 (step_size_at s at before.heaters) h (omega arith) (omega arith)) in
            let presence : (k : ℕ) → k < before.heaters → byte_at s' (entries_at s' at' + 17 * k) ≤ 3 = λ k j.
            rw (events, byte (entries_at s at + 17 * k) (at' + 16 + 8 * events_at s at + 17 * k) (16 + 8 * events_at s at + 17 * k) (omega arith) (omega arith) (omega arith)) (b k j) in
            let next : at' + 4 + u32_at s at ≡ at' + (at + 4 + u32_at s at - at) = omega arith in
            read_well_formed s' at' before _ (step_record stands t m presence)
            ∙ rw (events, double 6 (omega arith), volumes_alike (events_at s at) (omega arith), settings_alike (events_at s at) before.heaters (omega arith), four at at' 0 (omega arith) (omega arith) (omega arith), next)

-- ---- windows

-- two bytes hold at most 65,535, so no record is longer than the longest
module _ (s : List ℕ) (bytes : AreBytes s) (at : ℕ) (before : Before) where
  few_events : events_at s at ≤ 65535
  unfolding u16_at
  few_events = let a = bytes (at + 14) in let b = bytes (at + 14 + 1) in omega arith

  well_formed_short : (r : Reading) → WellFormed s at before r → r.next ≤ at + max_record
  unfolding step_fields_at
  well_formed_short r (tank_record h t m p) = omega arith
  well_formed_short r (heater_record h t m p b) = omega arith
  well_formed_short r (step_record h t m b) = let e = h.sized in let f = few_events in omega arith

module _ (s : List ℕ) (bytes : AreBytes s) (k : ℕ) (w : List ℕ) (window : Window s k w) (at : ℕ) (ready : (k + length w ≡ length s) ⊎ (at + max_record ≤ length w)) (before : Before) where
  abbrev ReadAs : Reading → Type 0
  ReadAs r = read_record s (k + at) before ≡ moved_to at (k + at) r

  whole_alike : (n : ℕ) → at + n ≤ length w → (i : ℕ) → i < n → byte_at s (k + at + i) ≡ byte_at w (at + i)
  whole_alike n l i j = let e : k + at + i ≡ k + (at + i) = omega arith in rw e (sym (window.same (at + i) (omega arith)))

  -- what is well formed in the window is read in the input
  from_window : (r : Reading) → WellFormed w at before r → ReadAs r
  from_window r f =
      let m = well_formed_moves w at before r f in
      let inside = window.inside in
      let a = m.0 in
      let b = m.1 in
      let n = r.next - at in
      read_alike w at s (k + at) n (whole_alike n (omega arith)) before (omega arith) r f (omega arith)

  -- what is well formed in the input lies within the window
  within : (r : Reading) → WellFormed s (k + at) before r → (k + length w ≡ length s) ⊎ (at + max_record ≤ length w) → r.next ≤ k + length w
  within r f (inl e) = let m = (well_formed_moves s (k + at) before r f).1 in omega arith
  within r f (inr l) = let m = well_formed_short s bytes (k + at) before r f in omega arith

  -- and so is read there
  to_window : (r : Reading) → WellFormed s (k + at) before r → read_record w at before ≡ moved_to (k + at) at r
  to_window r f =
      let a = (well_formed_moves s (k + at) before r f).0 in
      let b = within r f ready in
      let n = r.next - (k + at) in
      read_alike s (k + at) w at n (λ i l. sym (whole_alike n (omega arith) i l)) before (omega arith) r f (omega arith)

  refused_too : read_record w at before ≡ refused_at at → ReadAs (refused_at at)
  refused_too e = go (read_record s (k + at) before) refl (read_either s (k + at) before)
    where
      go : (r : Reading) → read_record s (k + at) before ≡ r → WellFormed s (k + at) before r ⊎ (r ≡ refused_at (k + at)) → r ≡ moved_to at (k + at) (refused_at at)
      go r f (inl x) =
          let not = well_formed_not_refused s (k + at) before r x in
          let same : refused_at at ≡ moved_to (k + at) at r = sym e ∙ to_window r x in
          absurd (true≢false (ap (λ (u : Reading). is_refused u.content) same ∙ not))
      go r f (inr x) = let next : k + at + (at - at) ≡ k + at = omega arith in x ∙ rw next

  -- the law
  pub window_reads : ReadAs (read_record w at before)
  window_reads = go (read_record w at before) refl (read_either w at before)
    where
      go : (r : Reading) → read_record w at before ≡ r → WellFormed w at before r ⊎ (r ≡ refused_at at) → ReadAs r
      go r f (inl x) = from_window r x
      go r f (inr x) = rw x (refused_too (f ∙ x))
