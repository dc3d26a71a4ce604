-- Proves that the volumes of a step's events (01, Draw), the first so many of its places, are the slice of those places.
use Prim.Native.Nat.{ℕ, zero, suc, ◌+◌, ◌≤◌}
use native.Mathlib.Omega.{arith}
use mathlib.Core.Path.{◌≡◌, refl}
use mathlib.Core.List.{List}
use lib.ListN.{length, get_or, take, drop}
use lib.Ieee.{Float, nan}
use Rattle.std.proofs.lemmas.List.{drop_more}
use Rattle.numeric.specs.Tabulate.{tabulate}
use Rattle.draw_events.specs.Event.{first_volumes}

module _ (volumes : List Float) where
  taken_from : (k i : ℕ) → i + k ≤ length volumes → take k (drop i volumes) ≡ tabulate (λ (j : ℕ). get_or volumes j nan) k i
  unfolding tabulate
  taken_from zero i h = refl
  taken_from (suc k) i h = rw (drop_more volumes i nan (omega arith), taken_from k (i + 1) (omega arith))

  pub first_taken : (n : ℕ) → n ≤ length volumes → take n volumes ≡ first_volumes n volumes
  first_taken n h = taken_from n 0 (omega arith)
