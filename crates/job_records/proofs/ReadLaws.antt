-- Proves the laws of reading (01, Job; refusal 11): what is well formed is read with its numbers, and nothing else; all else is refused, with zeros and the same position.
use Prim.Native.Nat.{ℕ, ◌+◌, ◌≤◌}
use native.Mathlib.Omega.{arith}
use mathlib.Core.Bool.{Bool, true, false, cond, not, ◌&&◌}
use mathlib.Core.List.{List}
use mathlib.Core.Logic.{◌⊎◌, inl, inr}
use mathlib.Core.Path.{◌≡◌, refl}
use Rattle.std.specs.Prelude.{Result, Ok, Err}
use Rattle.refusals.specs.declared.Refusal.{Refusal}
use Rattle.job_records.specs.declared.Record.{Record}
use borrow.Author.Tests.{leb-true, eqb-true, not-true, le-leb, eq-eqb}
use lib.Dec.{leb, eqb}
use lib.ListN.{length}
use Rattle.numeric.specs.Holds.{both, holds, holds_at, at_holds}
use Rattle.working_order.specs.Order.{max_heaters}
use Rattle.job_records.specs.declared.Before.{Before}
use Rattle.job_records.specs.declared.Reading.{Reading}
use Rattle.job_records.specs.Bytes.{byte_at, u16_at, u32_at}
use Rattle.job_records.specs.Fields.{is_presence_at}
use Rattle.job_records.specs.Records.{read_to, refused_at, tank_record_at, heater_record_at, reading_at, tank_at, heater_at, step_at, by_kind, is_whole, content_at, read_record, entries_at, step_size_at}
use Rattle.job_records.specs.declared.Record.TheVariants.{Tank, Heater as HeaterCase, Step as StepCase}
use Rattle.refusals.proofs.Numbers.{refusal_with-number}
use Rattle.job_records.specs.Values.{values_of, content_with}
use Rattle.job_records.specs.WellFormed.{Stands, WellFormed, tank_record, heater_record, step_record}

-- what holds of each answer under its test holds of the chosen one
choose : (P : Result Record Refusal → Type 0) (b : Bool) (x y : Result Record Refusal) → (b ≡ true → P x) → (b ≡ false → P y) → P (cond b x y)
choose P true x y f g = f refl
choose P false x y f g = g refl

module _ (s : List ℕ) (at : ℕ) (before : Before) where
  pub whole : (size : ℕ) → u32_at s at ≡ size → 2 ≤ size → at + 4 + size ≤ length s → before.heaters ≤ max_heaters → (leb before.heaters max_heaters && is_whole s at) ≡ true
  whole size e m l h =
      rw (le-leb before.heaters max_heaters h, le-leb (at + 6) (length s) (omega arith), e, le-leb (at + 4 + size) (length s) l)

  -- what is well formed is read, with its numbers
  pub read_well_formed : (r : Reading) → WellFormed s at before r → read_record s at before ≡ r
  unfolding read_record content_at by_kind tank_at heater_at step_at
  read_well_formed r (tank_record h t n p) =
      let next : at + 4 + 60 ≡ at + 64 = omega arith in
      rw (whole 60 h.sized (omega arith) h.there (omega arith), h.named, h.sized, t, n, p, h.sized, next)
  read_well_formed r (heater_record h t n p b) =
      let next : at + 4 + 27 ≡ at + 31 = omega arith in
      rw (whole 27 h.sized (omega arith) h.there n, h.named, h.sized, t, p, le-leb (byte_at s (at + 22)) 1 b, h.sized, next)
  read_well_formed r (step_record h t n b) =
      rw (whole (step_size_at s at before.heaters) h.sized (omega arith) h.there n, h.named, eq-eqb (u32_at s at) (step_size_at s at before.heaters) h.sized, t, at_holds (is_presence_at s (entries_at s at)) before.heaters 0 (λ j l u. le-leb _ _ (b j (omega arith))))

  -- a reading is that of a well-formed record, or the refusal
  abbrev Either : Reading → Type 0
  Either r = WellFormed s at before r ⊎ (r ≡ refused_at at)

  -- so is that of an answer
  abbrev EitherOf : Result Record Refusal → Type 0
  EitherOf x = Either (reading_at s at x)

  module _ (n : before.heaters ≤ max_heaters) (there : at + 4 + u32_at s at ≤ length s) where
    stands : (kind size : ℕ) → u16_at s (at + 4) ≡ kind → u32_at s at ≡ size → Stands s at kind size
    stands kind size k e = record { sized = e; named = k; there = rw e at there }

    -- by its length, the position after a record
    sized : (size next : ℕ) (x : Record) → u32_at s at ≡ size → at + 4 + size ≡ next → WellFormed s at before (read_to x next) → WellFormed s at before (reading_at s at (Ok x))
    sized size next x e n w = rw (e, n) w

    of_tank : u16_at s (at + 4) ≡ 1 → EitherOf (tank_at s at before)
    unfolding tank_at
    of_tank k = choose EitherOf _ _ _ (λ b.
        let t = both _ (not before.step) b in
        let q = both _ (eqb before.heaters 0) t.0 in
        let p = both (eqb (u32_at s at) 60) (not before.tank) q.0 in
        inl (sized 60 (at + 64) (tank_record_at s at) (eqb-true _ _ p.0) (omega arith) (tank_record (stands 1 60 k (eqb-true _ _ p.0)) (not-true before.tank p.1) (eqb-true _ _ q.1) (not-true before.step t.1)))) (λ b. inr refl)

    of_heater : u16_at s (at + 4) ≡ 2 → EitherOf (heater_at s at before)
    unfolding heater_at
    of_heater k = choose EitherOf _ _ _ (λ b.
        let t = both _ (leb (byte_at s (at + 22)) 1) b in
        let q = both _ (not before.step) t.0 in
        let p = both (eqb (u32_at s at) 27) before.tank q.0 in
        inl (sized 27 (at + 31) (heater_record_at s at (byte_at s (at + 22))) (eqb-true _ _ p.0) (omega arith) (heater_record (stands 2 27 k (eqb-true _ _ p.0)) p.1 n (not-true before.step q.1) (leb-true _ _ t.1)))) (λ b. inr refl)

    of_step : u16_at s (at + 4) ≡ 3 → EitherOf (step_at s at before)
    unfolding step_at
    of_step k = choose EitherOf _ _ _ (λ b.
        let q = both _ (holds (is_presence_at s (entries_at s at)) before.heaters 0) b in
        let p = both (eqb (u32_at s at) (step_size_at s at before.heaters)) before.tank q.0 in
        inl (step_record (stands 3 (step_size_at s at before.heaters) k (eqb-true _ _ p.0)) p.1 n (λ j l. leb-true _ _ (holds_at (is_presence_at s (entries_at s at)) before.heaters 0 q.1 j (omega arith) (omega arith))))) (λ b. inr refl)

    of_kind : EitherOf (by_kind s at before)
    unfolding by_kind
    of_kind =
        choose EitherOf (eqb (u16_at s (at + 4)) 1) _ _ (λ k. of_tank (eqb-true _ _ k)) (λ a.
        choose EitherOf (eqb (u16_at s (at + 4)) 2) _ _ (λ k. of_heater (eqb-true _ _ k)) (λ b.
        choose EitherOf (eqb (u16_at s (at + 4)) 3) _ _ (λ k. of_step (eqb-true _ _ k)) (λ c. inr refl)))

  -- nothing else is read: all else is refused, with zeros and the same position
  pub read_either : WellFormed s at before (read_record s at before) ⊎ (read_record s at before ≡ refused_at at)
  unfolding read_record content_at
  read_either = choose EitherOf _ _ _ (λ b.
      let p = both (leb before.heaters max_heaters) _ b in
      let q = both (leb (at + 6) (length s)) _ p.1 in
      of_kind (leb-true _ _ p.0) (leb-true _ _ q.1)) (λ b. inr refl)

  -- a record takes 16 bytes at least, and all of them are there
  pub well_formed_moves : (r : Reading) → WellFormed s at before r → (at + 16 ≤ r.next) × (r.next ≤ length s)
  well_formed_moves r (tank_record h t n p) = let l = h.there in (omega arith, omega arith)
  well_formed_moves r (heater_record h t n p b) = let l = h.there in (omega arith, omega arith)
  well_formed_moves r (step_record h t n b) = let e = h.sized in let l = h.there in (omega arith, omega arith)

-- what an answer says is its values, and nothing beside them
pub read_values_lem : (x : Result Record Refusal) → content_with (values_of x) ≡ x
unfolding values_of
read_values_lem (Ok (Tank t)) = refl
read_values_lem (Ok (HeaterCase h)) = refl
read_values_lem (Ok (StepCase p)) = refl
read_values_lem (Err e) = rw refusal_with-number
