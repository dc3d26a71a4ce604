-- Proves that a step's set points are those of its record's entries (01, Job): presence byte, lower and upper of each heater, where the presence bytes are 0 to 3.
use Prim.Native.Nat.{ℕ, zero, suc, ◌+◌, ◌*◌, ◌≤◌, ◌<◌}
use native.Mathlib.Omega.{arith}
use mathlib.Core.List.{List}
use mathlib.Core.Path.{◌≡◌, refl, ◌∙◌}
use lib.Ieee.{Float}
use Rattle.numeric.specs.Tabulate.{tabulate_same}
use Rattle.job_records.specs.Bytes.{byte_at}
use Rattle.job_records.specs.Fields.{filled, no_settings, points_of, points_at, setting_at, settings_at}
use Rattle.job_records.specs.Values.{no_entries, entry_of, entries_of}
use Rattle.job_records.specs.ReadValues.{entry_from, entry_at}
use Rattle.job_records.proofs.Filling.{map_filled}

entry_of_lem : (presence : ℕ) (lower upper : Float) → presence ≤ 3 → entry_of (points_of presence lower upper) ≡ entry_from presence lower upper
unfolding entry_of points_of entry_from
entry_of_lem zero lower upper h = refl
entry_of_lem (suc zero) lower upper h = refl
entry_of_lem (suc (suc zero)) lower upper h = refl
entry_of_lem (suc (suc (suc zero))) lower upper h = refl
entry_of_lem (suc (suc (suc (suc n)))) lower upper h = absurd (omega arith)

-- the law
pub entries_read : (s : List ℕ) (at n : ℕ) → ((k : ℕ) → k < n → byte_at s (at + 17 * k) ≤ 3) → entries_of (settings_at s at n) ≡ filled (entry_at s at) n no_entries
unfolding entry_of points_at settings_at
entries_read s at n b =
    map_filled entry_of (setting_at s at) n no_settings
    ∙ rw (tabulate_same (λ (k : ℕ). entry_of (setting_at s at k)) (entry_at s at) n 0 (λ k l u. entry_of_lem _ _ _ (b k (omega arith))))
