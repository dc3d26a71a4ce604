-- Proves where a read leaves the reader (01, The four calls): a refused record answers the position where it was looked for, so the position answered is where the reader goes.
use Prim.Native.Nat.{ℕ}
use mathlib.Core.Bool.{false, cond}
use mathlib.Core.List.{List}
use mathlib.Core.Logic.{◌⊎◌, inl, inr}
use mathlib.Core.Path.{◌≡◌, refl}
use Rattle.job_records.specs.declared.Before.{Before}
use Rattle.job_records.specs.declared.Reading.{Reading}
use Rattle.job_records.specs.Records.{refused_at, heater_record_at, step_fields_at, read_record}
use Rattle.job_records.specs.Values.{is_refused}
use Rattle.job_records.specs.WellFormed.{WellFormed, tank_record, heater_record, step_record}
use Rattle.job_records.proofs.ReadLaws.{read_either}

module _ (s : List ℕ) (at : ℕ) (before : Before) where
  pub well_formed_not_refused : (r : Reading) → WellFormed s at before r → is_refused r.content ≡ false
  unfolding heater_record_at step_fields_at
  well_formed_not_refused r (tank_record h t n p) = refl
  well_formed_not_refused r (heater_record h t n p b) = refl
  well_formed_not_refused r (step_record h t n b) = refl

  -- the place after a reading
  abbrev placed : Reading → ℕ
  placed r = cond (is_refused r.content) at r.next

  either_placed : (r : Reading) → WellFormed s at before r ⊎ (r ≡ refused_at at) → placed r ≡ r.next
  either_placed r (inl w) = rw (well_formed_not_refused r w)
  either_placed r (inr e) = rw e

  -- the law
  pub read_places : placed (read_record s at before) ≡ (read_record s at before).next
  read_places = either_placed (read_record s at before) (read_either s at before)
