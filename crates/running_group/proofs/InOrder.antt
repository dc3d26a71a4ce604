-- Proves when layers are in order after a group took its temperature (01, Mix): where those below it are, and the highest of them is at most that temperature.
use mathlib.Core.Path.{◌≡◌, refl}
use mathlib.Core.Logic.{inl}
use mathlib.Core.Bool.{Bool, true, false, not, cond, ◌&&◌}
use mathlib.Core.List.{List}
use Prim.Native.Nat.{ℕ, zero, suc, ◌+◌, ◌-◌, ◌≤◌, ◌<◌}
use native.Mathlib.Nat.{zero-add}
use native.Mathlib.Omega.{arith}
use lib.Dec.{T}
use lib.ListN.{length, get_or}
use lib.Ieee.{Float, nan, inf, fin, le, is_nan}
use lib.Ieee.Bits.{is_true}
use lib.Ieee.Scale.{finite}
use Rattle.numeric.specs.Holds.{holds, holds_split, holds_same, at_holds}
use Rattle.numeric.specs.Products.{le_self}
use Rattle.mixing.specs.Round.{fill}
use Rattle.mixing.specs.Rearrange.{rises}
use Rattle.layer_joining.specs.Running.{layer_below, not_above}
use Rattle.layer_joining.proofs.Fill.{fill_inside, fill_outside}

finite_number : (x : Float) → T (finite x) → T (not (is_nan x))
unfolding is_nan
finite_number nan h = absurd h
finite_number (inf s) h = absurd h
finite_number (fin s m e) h = tt

either : (a b : Bool) → (a && (b && true)) ≡ cond a b false
either true true = refl
either true false = refl
either false b = refl

module _ (end : ℕ) (x : Float) (temps : List Float) (f : T (finite x)) (there : (k : ℕ) → k < end → k < length temps) where
  -- inside the group each layer is as warm as the next
  level : (bottom k : ℕ) → bottom ≤ k → k + 1 < end → rises (fill bottom end x temps) k ≡ true
  level bottom k l u =
      rw (fill_inside bottom end x temps k l (omega arith) (there k (omega arith)), fill_inside bottom end x temps (k + 1) (omega arith) u (there (k + 1) u)) (is_true (le x x) (le_self x (finite_number x f)))

  -- the law
  pub group_order : (bottom : ℕ) → bottom < end → holds (rises (fill bottom end x temps)) (end - 1) 0 ≡ cond (holds (rises temps) (bottom - 1) 0) (not_above (layer_below temps bottom) x) false
  unfolding holds
  group_order zero h =
      at_holds (rises (fill 0 end x temps)) (end - 1) 0 (λ j l u. level 0 j l (omega arith))
  group_order (suc b) h =
      let after = fill (suc b) end x temps in
      let e : end - 1 ≡ b + suc (end - 2 - b) = omega arith in
      let d : suc b - 1 ≡ b = omega arith in
      let below : holds (rises after) b 0 ≡ holds (rises temps) b 0 =
      holds_same (rises after) (rises temps) b 0 (λ j l u. rw (fill_outside (suc b) end x temps j (omega arith) (inl (omega arith)), fill_outside (suc b) end x temps (j + 1) (omega arith) (inl (omega arith)))) in
      let at : rises after b ≡ le (get_or temps b nan) x =
      rw (fill_outside (suc b) end x temps b (omega arith) (inl (omega arith)), fill_inside (suc b) end x temps (b + 1) (omega arith) (omega arith) (there (b + 1) (omega arith))) in
      let rest : holds (rises after) (end - 2 - b) (b + 1) ≡ true = at_holds (rises after) (end - 2 - b) (b + 1) (λ j l u. level (suc b) j (omega arith) (omega arith)) in
      rw (e, d, holds_split (rises after) b (suc (end - 2 - b)) 0, zero-add, below, at, rest) (either (holds (rises temps) b 0) (le (get_or temps b nan) x))
