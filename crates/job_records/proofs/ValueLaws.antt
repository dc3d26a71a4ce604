-- Proves that what a read answers has the number and the values that 01 gives it over the bytes, and the position after it (01, The four calls; refusal 11).
use Prim.Native.Nat.{ℕ, ◌+◌, ◌≤◌}
use native.Mathlib.Omega.{arith}
use mathlib.Core.Bool.{Bool, true, false, cond, not, ◌&&◌, ◌||◌, true≢false}
use mathlib.Core.List.{List}
use mathlib.Core.Logic.{◌⊎◌, inl, inr}
use mathlib.Core.Path.{◌≡◌, refl, sym, ◌∙◌}
use borrow.Author.Tests.{leb-true, eqb-true, not-true, le-leb, eq-eqb}
use lib.Dec.{leb, eqb}
use lib.ListN.{length}
use Rattle.numeric.specs.Holds.{both, holds, holds_at, at_holds}
use Rattle.working_order.specs.Order.{max_heaters}
use Rattle.job_records.specs.declared.Before.{Before}
use Rattle.job_records.specs.declared.Reading.{Reading}
use Rattle.job_records.specs.Bytes.{byte_at, u32_at}
use Rattle.job_records.specs.Fields.{is_presence_at}
use Rattle.job_records.specs.Records.{refused_at, heater_record_at, step_fields_at, is_whole, read_record, entries_at, step_size_at}
use Rattle.job_records.specs.Values.{is_refused}
use Rattle.job_records.specs.Values.{values_of, values_in}
use Rattle.job_records.specs.ReadValues.{kind_at, is_known_kind, size_of_kind, is_placed, are_presences, is_read, read_kind, read_values, read_next, RecordRead}
use Rattle.job_records.specs.WellFormed.{Stands, WellFormed, tank_record, heater_record, step_record}
use Rattle.job_records.proofs.ReadLaws.{whole, read_well_formed, read_either}
use Rattle.job_records.proofs.ReaderLaws.{well_formed_not_refused}
use Rattle.job_records.proofs.EntryLaws.{entries_read}

module _ (s : List ℕ) (at : ℕ) (before : Before) where
  -- ---- a well-formed record is none of what 11 refuses, and has its values

  all_there : (size : ℕ) → u32_at s at ≡ size → 2 ≤ size → at + 4 + size ≤ length s → before.heaters ≤ max_heaters → is_whole s at ≡ true
  all_there size e m l h = (both (leb before.heaters max_heaters) (is_whole s at) (whole s at before size e m l h)).1

  well_formed_read : (r : Reading) → WellFormed s at before r → is_read s at before ≡ true
  unfolding is_read
  well_formed_read r (tank_record h t n p) =
      rw (all_there 60 h.sized (omega arith) h.there (omega arith), h.named, h.sized, t, n, p)
  well_formed_read r (heater_record h t n p b) =
      rw (all_there 27 h.sized (omega arith) h.there n, h.named, h.sized, t, p, le-leb (byte_at s (at + 22)) 1 b, le-leb before.heaters max_heaters n)
  well_formed_read r (step_record h t n b) =
      rw (all_there (step_size_at s at before.heaters) h.sized (omega arith) h.there n, h.named, eq-eqb (u32_at s at) (step_size_at s at before.heaters) h.sized, t, at_holds (is_presence_at s (entries_at s at)) before.heaters 0 (λ j l u. le-leb _ _ (b j (omega arith))), le-leb before.heaters max_heaters n)

  -- the values of an answer, and the position after it
  abbrev Valued : Reading → Type 0
  Valued r = (values_in r ≡ read_values s at before) × (r.next ≡ read_next s at before)

  well_formed_valued : (r : Reading) → WellFormed s at before r → Valued r
  unfolding values_of read_values read_kind read_next heater_record_at step_fields_at
  well_formed_valued r (tank_record h t n p) =
      let e = well_formed_read r (tank_record h t n p) in (rw (e, h.named), rw (e, h.sized) (omega arith))
  well_formed_valued r (heater_record h t n p b) =
      let e = well_formed_read r (heater_record h t n p b) in (rw (e, h.named), rw (e, h.sized) (omega arith))
  well_formed_valued r (step_record h t n b) =
      let e = well_formed_read r (step_record h t n b) in (rw (e, h.named, entries_read s (entries_at s at) before.heaters b), rw e)

  -- ---- what is none of what 11 refuses is well formed, and so not refused

  not_refused : (r : Reading) → WellFormed s at before r → is_refused (read_record s at before).content ≡ false
  not_refused r w = rw (read_well_formed s at before r w) (well_formed_not_refused s at before r w)

  module _ (there : at + 4 + u32_at s at ≤ length s) (n : before.heaters ≤ max_heaters) where
    stands : (kind size : ℕ) → eqb (kind_at s at) kind ≡ true → eqb (u32_at s at) size ≡ true → Stands s at kind size
    stands kind size k e = let z = eqb-true (u32_at s at) size e in record { sized = z; named = eqb-true _ _ k; there = rw z at there }

    -- by the tests of the kind
    of_kind : (a b c : Bool) → eqb (kind_at s at) 1 ≡ a → eqb (kind_at s at) 2 ≡ b → eqb (kind_at s at) 3 ≡ c → (a || b || c) ≡ true
        → eqb (u32_at s at) (cond a 60 (cond b 27 (step_size_at s at before.heaters))) ≡ true
        → cond a (not before.tank && eqb before.heaters 0 && not before.step) (cond b (before.tank && not before.step) before.tank) ≡ true
        → cond a true (cond b (leb (byte_at s (at + 22)) 1) (holds (is_presence_at s (entries_at s at)) before.heaters 0)) ≡ true
        → is_refused (read_record s at before).content ≡ false
    of_kind true b c k₁ k₂ k₃ known size placed present =
        let q = both _ (not before.step) placed in
        let p = both (not before.tank) (eqb before.heaters 0) q.0 in
        not_refused _ (tank_record (stands 1 60 k₁ size) (not-true before.tank p.0) (eqb-true _ _ p.1) (not-true before.step q.1))
    of_kind false true c k₁ k₂ k₃ known size placed present =
        let p = both before.tank (not before.step) placed in
        not_refused _ (heater_record (stands 2 27 k₂ size) p.0 n (not-true before.step p.1) (leb-true _ _ present))
    of_kind false false true k₁ k₂ k₃ known size placed present =
        not_refused _ (step_record (stands 3 (step_size_at s at before.heaters) k₃ size) placed n (λ j l. leb-true _ _ (holds_at (is_presence_at s (entries_at s at)) before.heaters 0 present j (omega arith) (omega arith))))
    of_kind false false false k₁ k₂ k₃ known size placed present = absurd (true≢false (sym known))

  read_not_refused : is_read s at before ≡ true → is_refused (read_record s at before).content ≡ false
  unfolding is_read
  read_not_refused e =
      let kind = kind_at s at in
      let few = both _ (leb before.heaters max_heaters) e in
      let present = both _ (are_presences kind s at before.heaters) few.0 in
      let placed = both _ (is_placed kind before) present.0 in
      let sized = both _ (eqb (u32_at s at) (size_of_kind kind s at before.heaters)) placed.0 in
      let known = both (is_whole s at) (is_known_kind kind) sized.0 in
      let there = both (leb (at + 6) (length s)) (leb (at + 4 + u32_at s at) (length s)) known.0 in
      of_kind (leb-true _ _ there.1) (leb-true _ _ few.1) (eqb kind 1) (eqb kind 2) (eqb kind 3) refl refl refl known.1 sized.1 placed.1 present.1

  -- ---- the refusal

  not_read : (b : Bool) → is_read s at before ≡ b → read_record s at before ≡ refused_at at → is_read s at before ≡ false
  not_read true e f = absurd (true≢false (rw f at (read_not_refused e)))
  not_read false e f = e

  refused_valued : is_read s at before ≡ false → Valued (refused_at at)
  unfolding values_of read_values read_kind read_next
  refused_valued e = (rw e, rw e)

  -- ---- the law: the answer by its definition is all that a reading call promises

  read_valued : Valued (read_record s at before)
  read_valued = go (read_record s at before) refl (read_either s at before)
    where
      go : (r : Reading) → read_record s at before ≡ r → WellFormed s at before r ⊎ (r ≡ refused_at at) → Valued r
      go r f (inl w) = well_formed_valued r w
      go r f (inr e) = rw e (refused_valued (not_read (is_read s at before) refl (f ∙ e)))

  pub record_read : (r : Reading) → r ≡ read_record s at before → RecordRead s at before r
  record_read r e = record { values = rw e read_valued.0; next = rw e read_valued.1; answers = e }
