-- `round::is_sorted` meets its contract (01, Mix): std's order of doubles is the definition's, pair by pair.
use mathlib.Core.Path.{◌≡◌, refl, sym, ◌∙◌}
use mathlib.Core.Bool.{Bool, true, false, cond, ◌||◌, true≢false}
use mathlib.Core.List.{List}
use Prim.Native.Nat.{ℕ, ◌+◌, ◌-◌, ◌<◌, ◌≤◌}
use native.Mathlib.Omega.{arith}
use lib.Ieee.{Float, nan, lt, eq, le}
use lib.ListN.{length, take, get_or}
use Rattle.std.specs.Prelude.{Some, None}
use Rattle.std.specs.List.{IsAllAdjacentAnswer}
use Rattle.std.specs.Ordering.{partial_le, float_partial_cmp, is_some_and, is_le}
use Rattle.std.specs.declared.cmp.Ordering.TheVariants.{Less, Equal, Greater}
use Rattle.std.proofs.lemmas.List.{get_or-take, length-take-le}
use Rattle.numeric.specs.Holds.{holds, holds_at, at_holds}
use Rattle.mixing.specs.Rearrange.{rises, is_sorted}
use Rattle.plain_mixing.proofs.round.is_sorted.Goals as goal

at_most : (x y : Float) → partial_le float_partial_cmp x y ≡ le x y
unfolding le
at_most x y = go (lt x y) (eq x y) (lt y x)
  where
    go : (a b c : Bool) → is_some_and is_le (cond a (Some Less) (cond b (Some Equal) (cond c (Some Greater) None))) ≡ (a || b)
    go true b c = refl
    go false true c = refl
    go false false true = refl
    go false false false = refl

module _ (n : ℕ) (temps : List Float) (some : 1 ≤ n) (room : n ≤ length temps) where
  long : length (take n temps) ≡ n
  long = length-take-le n temps room

  -- the pair at i, among the first n
  pair_is : (i : ℕ) (d : Float) → i < n - 1 → partial_le float_partial_cmp (get_or (take n temps) i d) (get_or (take n temps) (i + 1) d) ≡ le (get_or temps i d) (get_or temps (i + 1) d)
  pair_is i d l = rw (get_or-take n temps i d (omega arith), get_or-take n temps (i + 1) d (omega arith)) (at_most (get_or temps i d) (get_or temps (i + 1) d))

  tells : (r : Bool) → IsAllAdjacentAnswer (λ (x y : Float) (b : Bool). partial_le float_partial_cmp x y ≡ b) (take n temps) r → r ≡ holds (rises temps) (n - 1) 0
  tells true all =
      sym (at_holds (rises temps) (n - 1) 0 (λ j l u. sym (pair_is j nan (omega arith)) ∙ all j nan (rw long (omega arith))))
  tells false one = go (holds (rises temps) (n - 1) 0) refl
    where
      go : (b : Bool) → holds (rises temps) (n - 1) 0 ≡ b → false ≡ b
      go true e =
          let l = rw long at one.1 in
          absurd (true≢false (sym (holds_at (rises temps) (n - 1) 0 e one.0 (omega arith) (omega arith)) ∙ (sym (pair_is one.0 nan (omega arith)) ∙ one.2 nan)))
      go false e = refl

pub returns : goal.returns
unfolding is_sorted
returns c = tells c.args.n c.args.temps.now (omega arith) (omega arith) c.is_sorted.result c.is_sorted.ensures.cases
