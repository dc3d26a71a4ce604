-- `round::run_pair` meets its contract (01, Mix): the pair joins the group, or it ends it and starts the next.
use mathlib.Core.Path.{refl, ◌∙◌}
use native.Mathlib.Omega.{arith}
use Rattle.running_group.proofs.Parting.{follows_part}
use Rattle.running_group.proofs.round.run_pair.Goals as goal

pub returns-then-does_join_finite : goal.returns-then-does_join_finite
returns-then-does_join_finite c =
    let says = c.does_join_finite.ensures in
    let low = c.join.ensures.bottom_is in
    let pre = c.requires.0 in
    record { group_below = omega arith; follows = λ n first b f. c.join.ensures.follows n first _ b refl (λ p q. says p q ∙ c.if-does_join_finite.true) f }

pub returns : goal.returns
returns c =
    let says = c.does_join_finite.ensures in
    let bottom = c.start_group.ensures.bottom_is in
    record {
      group_below = omega arith;
      follows = λ n first b f.
          follows_part n _ first c.args.i _ c.args.r c.requires.0 (omega arith) _ c.end_group.ensures c.start_group.result b (λ p q. says p q ∙ c.if-does_join_finite.false)
          (rw (← c.is_still_sorted-sorted.ensures) c.start_group.ensures) f;
    }
