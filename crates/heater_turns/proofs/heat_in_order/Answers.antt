-- `heat_in_order` meets its contract (01, Step). The loop's invariant: the turns that are left, from where those worked have come to, end as the whole does.
use Rattle.std.proofs.Common.{rules, ◌≡◌, refl}
use Rattle.refusals.specs.Refusals.{number_of, number_in}
use Rattle.refusals.proofs.Numbers.{number-not_0}
use Rattle.heater_turns.proofs.TurnLoop.{all_worked, one_worked, last_worked}
use Rattle.heater_turns.proofs.heat_in_order.Goals as goal

pub returns-in_err-heat_turn : goal.returns-in_err-heat_turn
returns-in_err-heat_turn c =
    let l = c.loop-h-test.true in
    let e : number_in c.from_residual.result ≡ number_of c.in_err-heat_turn.field-0.0 = search rules in
    rw e (last_worked _ _ _ _ _ _ _ _ _ _ _ c.loop-h.invariant l (c.requires.4 _ l) _ _ _ c.in_err-heat_turn.ensures (number-not_0 _))

pub loop-h-preserved : goal.loop-h-preserved
loop-h-preserved c =
    let l = c.loop-h-test.true in
    one_worked _ _ _ _ _ _ _ _ _ _ _ c.loop-h.invariant l (c.requires.4 _ l) _ _ _ c.in_ok-heat_turn.ensures refl

pub returns : goal.returns
returns c = all_worked _ _ _ _ _ _ _ _ _ _ _ c.loop-h.invariant c.loop-h-test.false
