-- `whole::whole_below` meets its contract (01, Tank). The loop's invariant: the number before k is 0, or below n and at most x.
use mathlib.Core.Path.{◌≡◌, refl}
use mathlib.Core.Logic.{inl, inr}
use Prim.Native.Nat.{◌+◌, ◌-◌}
use native.Mathlib.Omega.{arith}
use Rattle.numeric.proofs.WholePart.{found_stop, found_end}
use borrow.Author.Rules.{rules}
use Rattle.numeric.proofs.whole.whole_below.Goals as goal

pub loop-k-init : goal.loop-k-init
loop-k-init c = inl refl

pub returns-then-not-whole_of-x : goal.returns-then-not-whole_of-x
returns-then-not-whole_of-x c =
    let k = c.loop-k.k in
    let e : k - 1 + 1 ≡ k = omega arith in
    found_stop _ _ _ (search rules) (omega arith) (rw (e, ← c.whole_of.ensures) c.if-not-whole_of-x.true) c.loop-k.invariant

pub loop-k-preserved : goal.loop-k-preserved
loop-k-preserved c =
    let k = c.loop-k.k in
    let e : k + 1 - 1 ≡ k = omega arith in
    rw e (inr (omega arith, rw (← c.whole_of.ensures) c.if-not-whole_of-x.false))

pub returns : goal.returns
returns c =
    let k = c.loop-k.k in
    let e : c.args.n - 1 ≡ k - 1 = omega arith in
    rw (c.saturating_sub.ensures, e) (found_end _ _ _ (omega arith) c.loop-k.invariant)
