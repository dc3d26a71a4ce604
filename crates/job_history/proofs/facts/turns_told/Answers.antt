-- `facts::turns_told` meets its contract (01, Turn): none where there was no turn, else those of the heaters in the order of work.
use Rattle.std.proofs.Common.{◌<◌, ◌≤◌, length, refl, sym, ap, ◌∙◌, arith}
use Rattle.std.proofs.lemmas.List.{get_or-take, length-take-le}
use Rattle.tank_model.proofs.Order.{first_in_taken}
use Rattle.storage_tank.specs.Tank.{fixed_in}
use Rattle.job_history.specs.Facts.{step_turns, turns_of}
use Rattle.job_history.proofs.TurnsTold.{none_told, no_more, few_heaters, step_told}
use Rattle.job_history.proofs.facts.turns_told.Goals as goal

pub returns-then-notes-eq0 : goal.returns-then-notes-eq0
unfolding step_turns
returns-then-notes-eq0 c =
    let none = none_told _ (sym c.requires.many ∙ c.if-notes-eq0.true) in
    record { tells = c.no_turns.ensures ∙ ap turns_of (sym none); few = rw c.no_turns.ensures (omega arith) }

pub shared_ref_as_front-order_of_work : goal.shared_ref_as_front-order_of_work
shared_ref_as_front-order_of_work c = few_heaters c.args.t c.args.a.now _ c.requires c.if-notes-eq0.false

pub order_of_work-order-requires : goal.order_of_work-order-requires
order_of_work-order-requires c =
    let t = c.args.t in
    let few = few_heaters t c.args.a.now _ c.requires c.if-notes-eq0.false in
    let within : t.heaters ≤ length t.fitted = omega arith in
    let many = length-take-le t.heaters t.fitted within in
    omega arith

-- there are no more turns than heaters
pub slice_bounds-order-end : goal.slice_bounds-order-end
slice_bounds-order-end c =
    let few = few_heaters c.args.t c.args.a.now _ c.requires c.if-notes-eq0.false in
    let more = no_more c.args.t c.args.a.now _ c.requires in
    omega arith

pub slice_bounds-facts_in_order-end : goal.slice_bounds-facts_in_order-end
slice_bounds-facts_in_order-end c =
    let few = few_heaters c.args.t c.args.a.now _ c.requires c.if-notes-eq0.false in
    let more = no_more c.args.t c.args.a.now _ c.requires in
    let many = length-take-le c.args.notes.now.worked c.order_of_work-order.result (omega arith) in
    omega arith

pub facts_in_order-requires : goal.facts_in_order-requires
facts_in_order-requires c =
    let t = c.args.t in
    let few = few_heaters t c.args.a.now _ c.requires c.if-notes-eq0.false in
    let more = no_more t c.args.a.now _ c.requires in
    let within : t.heaters ≤ length t.fitted = omega arith in
    let taken = length-take-le t.heaters t.fitted within in
    let n = c.args.notes.now.worked in
    let order = c.order_of_work-order.result in
    let many = length-take-le n order (omega arith) in (
      omega arith,
      λ k l.
          let m : k < n = omega arith in
          let e = c.order_of_work-order.ensures.below k (omega arith) in
          let x = get_or-take n order k 0 m in
          omega arith,
    )

pub returns : goal.returns
returns c =
    let t = c.args.t in
    let few = few_heaters t c.args.a.now _ c.requires c.if-notes-eq0.false in
    let more = no_more t c.args.a.now _ c.requires in
    let within : t.heaters ≤ length t.fitted = omega arith in
    let order = first_in_taken t.heaters t.fitted _ (fixed_in t) within c.order_of_work-order.ensures.order refl in
    let all = c.facts_in_order.ensures in
    record { tells = all.tells ∙ ap turns_of (step_told t c.args.a.now _ c.requires c.if-notes-eq0.false _ order); few = all.few }
