-- `insert_heater` meets its contract. The loop's invariant: those worked before x have moved down, and inserting x among those left gives the whole.
use mathlib.Core.Path.{◌≡◌, sym, ◌∙◌}
use Prim.Native.Nat.{◌-◌}
use lib.ListN.{length}
use native.Mathlib.Omega.{arith}
use Rattle.working_order.proofs.Insert.{inserting_next, inserting_stop, inserting_end}
use Rattle.working_order.proofs.insert_heater.Goals as goal

pub returns-then-comes_before : goal.returns-then-comes_before
returns-then-comes_before c =
    let at = c.loop-j in
    inserting_stop _ _ _ _ _ _ (omega arith) at.invariant (omega arith) (sym c.comes_before.ensures ∙ c.if-comes_before.true)

pub loop-j-preserved : goal.loop-j-preserved
loop-j-preserved c =
    inserting_next _ _ _ _ _ _ (omega arith) c.loop-j.invariant (omega arith) (sym c.comes_before.ensures ∙ c.if-comes_before.false)

pub returns : goal.returns
returns c =
    let at = c.loop-j in
    let last : length c.args.positions.now - 1 ≡ at.j = omega (arith, at.invariant.high) in
    rw last (inserting_end _ _ _ _ _ _ (omega arith) at.invariant (omega arith))
