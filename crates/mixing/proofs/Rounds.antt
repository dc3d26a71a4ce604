-- Proves the rounds of a mixing one at a time (01, Mix): what the loop over them cites, and the laws on when they end.
use mathlib.Core.Bool.{Bool, true, false}
use mathlib.Core.Path.{◌≡◌, refl}
use mathlib.Core.List.{List}
use Prim.Native.Nat.{ℕ, zero, suc, ◌+◌, ◌-◌, ◌≤◌, ◌<◌}
use native.Mathlib.Omega.{arith}
use lib.Ieee.{Float}
use Rattle.mixing.specs.Round.{one_round}
use Rattle.mixing.specs.Rearrange.{sorted, unsorted, is_sorted, rounds}

-- order ends the rounds, however many may still run
pub rounds_sorted : (left k n : ℕ) (vol temps : List Float) → rounds left true k n vol temps ≡ sorted temps k
unfolding rounds
rounds_sorted zero k n vol temps = refl
rounds_sorted (suc left) k n vol temps = refl

-- with no order and no round left, the mixing is refused
pub rounds_none : (left k n : ℕ) (vol temps : List Float) → left ≤ 0 → rounds left false k n vol temps ≡ unsorted
unfolding rounds
rounds_none left k n vol temps h = let e : left ≡ 0 = omega arith in rw e

-- one more round, after which k + 1 have run and b says whether the layers are in order
pub rounds_next : (limit k n : ℕ) (vol temps next : List Float) (b : Bool) → k < limit → next ≡ one_round n vol temps → is_sorted n next ≡ b → rounds (limit - k) false k n vol temps ≡ rounds (limit - (k + 1)) b (k + 1) n vol next
unfolding rounds
rounds_next limit k n vol temps next b h e s =
    let d : limit - k ≡ suc (limit - (k + 1)) = omega arith in
    rw (d, ← s, e)
