-- `work_step` meets its contract (01, Step): each of its parts may refuse the step; else it is accepted with what they leave.
use Rattle.std.proofs.Common.{rules, ◌≡◌, ◌∙◌, sym, ◌≤◌, ℕ, List, length, replicate, take, arith}
use Rattle.std.specs.Prelude.{Err}
use Rattle.refusals.specs.declared.Refusal.TheVariants.{NotFinite}
use Rattle.refusals.proofs.Numbers.{unless_passed, unless_refused}
use Rattle.cylinder.specs.declared.Cylinder.{Cylinder}
use Rattle.cylinder.specs.declared.LayeredCylinder.{LayeredCylinder}
use Rattle.cylinder.specs.Layers.{layer_volumes}
use Rattle.draw_events.specs.declared.Totals.{Totals}
use Rattle.draw_events.specs.Event.{no_totals}
use Rattle.working_order.specs.Order.{max_heaters}
use Rattle.tank_model.specs.declared.Heater.{Heater}
use Rattle.tank_model.specs.declared.Step.{Step}
use Rattle.tank_model.specs.declared.TurnNotes.{TurnNotes}
use Rattle.tank_model.specs.Fixed.{fixed_by, placed_heaters, State}
use Rattle.tank_model.specs.Checks.{step_refusal}
use Rattle.tank_model.specs.Work.{zero_line}
use Rattle.tank_model.proofs.Order.{taken_heaters}
use Rattle.heater_turns.specs.Lent.{fixed_lent}
use Rattle.step_work.specs.Lent.{state_of}
use Rattle.step_work.proofs.StepWorked.{both_finite, Begun, checks_refuse, events_refuse, turns_refuse, end_refuses, end_accepts}
use Rattle.step_work.proofs.work.work_step.Goals as goal

-- the events begin with the tank whose heaters are the slice of the first n
begun : (c : Cylinder) (n : ℕ) (fitted : List Heater) (st : State) (a : Step) (x : TurnNotes) (tank : LayeredCylinder) (t : Totals)
    → 0 ≡ step_refusal (fixed_by c (placed_heaters n fitted)) st a → tank.numbers ≡ c → tank.vol ≡ layer_volumes c → n ≤ length fitted
    → x.lines ≡ replicate max_heaters zero_line → a.events ≤ length a.volumes → t ≡ no_totals
    → Begun (fixed_by c (placed_heaters n fitted)) st a x (fixed_lent tank.numbers tank.vol (length (take n fitted)) (take n fitted)) t
begun c n fitted st a x tank t passed numbers vol few no_lines long none = record {
  passed = sym passed;
  tank_is = rw (numbers, vol, taken_heaters n fitted few);
  no_lines = no_lines;
  long = long;
  none_drawn = none;
}

pub returns-in_err-step_refusal : goal.returns-in_err-step_refusal
returns-in_err-step_refusal c =
    let e : c.from_residual.result ≡ Err c.in_err-step_refusal.field-0.0 = search rules in
    rw e (checks_refuse _ _ _ _ _ (c.in_err-step_refusal.ensures.refuses c.args.flags.now))

pub returns-in_err-draw_events : goal.returns-in_err-draw_events
returns-in_err-draw_events c =
    let a = c.args in
    let w = c.in_ok-step_refusal.ensures in
    let t = c.new-tank in
    let b = begun a.c a.n a.fitted.now (state_of a.temps.now a.flags.now) a.a.now a.notes.now t.result c.default-totals.result
    (w.refuses a.flags.now) t.ensures.numbers t.ensures.vol (omega (arith, w.within)) c.requires (omega (arith, w.within)) (search rules) in
    let e : c.from_residual-in_err-draw_events.result ≡ Err c.in_err-draw_events.field-0.0 = search rules in
    rw e (events_refuse _ _ _ _ _ _ b _ _ _ c.draw_events.ensures _ c.in_err-draw_events.was)

pub returns-in_err-heat_turns : goal.returns-in_err-heat_turns
returns-in_err-heat_turns c =
    let a = c.args in
    let w = c.in_ok-step_refusal.ensures in
    let t = c.new-tank in
    let b = begun a.c a.n a.fitted.now (state_of a.temps.now a.flags.now) a.a.now a.notes.now t.result c.default-totals.result
    (w.refuses a.flags.now) t.ensures.numbers t.ensures.vol (omega (arith, w.within)) c.requires (omega (arith, w.within)) (search rules) in
    let e : c.from_residual-in_err-heat_turns.result ≡ Err c.in_err-heat_turns.field-0.0 = search rules in
    rw e
    (turns_refuse _ _ _ _ _ _ b _ _ _ c.draw_events.ensures c.in_ok-draw_events.was _ c.average_of-average.ensures _ _ _ c.heat_turns.ensures _ c.in_err-heat_turns.was)

pub returns-in_err-unless : goal.returns-in_err-unless
returns-in_err-unless c =
    let a = c.args in
    let w = c.in_ok-step_refusal.ensures in
    let t = c.new-tank in
    let b = begun a.c a.n a.fitted.now (state_of a.temps.now a.flags.now) a.a.now a.notes.now t.result c.default-totals.result
    (w.refuses a.flags.now) t.ensures.numbers t.ensures.vol (omega (arith, w.within)) c.requires (omega (arith, w.within)) (search rules) in
    let u = unless_refused _ NotFinite _ c.unless.ensures.outcome _ c.in_err-unless.was in
    let e : c.from_residual-in_err-unless.result ≡ Err c.in_err-unless.field-0.0 = search rules in
    rw (e, u.1)
    (end_refuses _ _ _ _ _ _ b _ _ _ c.draw_events.ensures c.in_ok-draw_events.was _ c.average_of-average.ensures _ _ _ c.heat_turns.ensures c.in_ok-heat_turns.was
    (both_finite c.average_of-average.result _ ∙ sym c.is_each_finite-is_finite.ensures ∙ u.0))

pub returns : goal.returns
returns c =
    let a = c.args in
    let w = c.in_ok-step_refusal.ensures in
    let t = c.new-tank in
    let b = begun a.c a.n a.fitted.now (state_of a.temps.now a.flags.now) a.a.now a.notes.now t.result c.default-totals.result
    (w.refuses a.flags.now) t.ensures.numbers t.ensures.vol (omega (arith, w.within)) c.requires (omega (arith, w.within)) (search rules) in
    end_accepts _ _ _ _ _ _ b _ _ _ c.draw_events.ensures c.in_ok-draw_events.was _ c.average_of-average.ensures _ _ _ c.heat_turns.ensures c.in_ok-heat_turns.was
    (both_finite c.average_of-average.result _ ∙ sym c.is_each_finite-is_finite.ensures ∙ unless_passed _ NotFinite _ c.unless.ensures.outcome _ c.in_ok-unless.was)
