-- `round::try_round` meets its contract (01, Mix). The loop's invariant: what is kept after i pairs follows the round by definition.
use mathlib.Core.Path.{◌≡◌, refl, sym, ◌∙◌}
use mathlib.Core.Bool.{Bool, true, false}
use native.Mathlib.Omega.{arith}
use Rattle.std.specs.Bool.{then_some}
use Rattle.std.specs.Option.{IfSome}
use denote.Floats.{passes}
use Rattle.running_group.proofs.Parting.{follows_start, follows_end}
use Rattle.running_group.proofs.round.try_round.Goals as goal

pub loop-i-init : goal.loop-i-init
loop-i-init c =
    let bottom = c.start_group-r.ensures.bottom_is in
    (omega arith, omega arith, follows_start _ _ _ c.start_group-r.result (omega arith) c.start_group-r.ensures)

pub loop-i-preserved : goal.loop-i-preserved
loop-i-preserved c =
    let at = c.loop-i in
    (omega arith, c.run_pair-r.ensures.group_below, c.run_pair-r.ensures.follows _ _ (omega arith) at.invariant.2)

-- an answer speaks of a round whose products are finite
answered : (P : Bool → Type 0) (finite sorted : Bool) → (finite ≡ true → P sorted) → IfSome (then_some finite sorted) P
answered P true sorted h = h refl
answered P false sorted h = tt

pub returns : goal.returns
returns c =
    let at = c.loop-i in
    rw (c.then_some.ensures, c.is_still_sorted.ensures)
    (answered _ c.is_finite.result _ (λ finite. follows_end _ _ _ at.i _ at.r _ at.invariant.1 (omega arith) c.end_group.ensures (passes _ (sym c.is_finite.ensures ∙ finite)) at.invariant.2))
