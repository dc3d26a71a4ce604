-- `HeaterLosses::lose_heat` meets its contract. The loop's invariant: the layers and the charges passed are done, those left are as they were, and the
-- accumulator has the losses below k.
use native.Mathlib.Nat.{le_refl}
use mathlib.Core.Path.{ap, ◌∙◌}
use Rattle.numeric.specs.Iterate.{rest_next, rest_end}
use Rattle.numeric.specs.InPlace.{updating_next, updating_end}
use Rattle.numeric.specs.Sum2.{sum2_iterate}
use Rattle.layer_losses.specs.declared.LayerAfter.{LayerAfter}
use Rattle.thermal_losses.specs.Losses.{losses, temps_after, charged_after}
use Rattle.thermal_losses.proofs.Layer.{loss_local, charged_local, limited_local}
use Rattle.thermal_losses.proofs.HeaterLosses.lose_heat.Goals as goal

pub loop-k-preserved : goal.loop-k-preserved
loop-k-preserved c =
    let at = c.loop-k in
    let l = c.loop-k-test.true in
    let t = at.invariant.0.untouched at.k (le_refl _) in
    let q = at.invariant.1.untouched at.k (le_refl _) in
    let after = rw c.layer_at.ensures at c.after-after.ensures in
    let lost = ap (λ (x : LayerAfter). x.lost) after ∙ loss_local _ _ _ _ _ _ _ _ _ t q in
    let temp = ap (λ (x : LayerAfter). x.temp) after ∙ limited_local _ _ _ _ _ _ _ _ _ t q _ (loss_local _ _ _ _ _ _ _ _ _ t q) in (
      updating_next _ _ _ _ _ _ l at.invariant.0 temp,
      updating_next _ _ _ _ _ _ l at.invariant.1 (charged_local _ _ _ _ _ _ _ _ _ t q _ lost),
      rw (c.add_term-a.ensures, lost) (rest_next _ _ _ _ _ l at.invariant.2),
    )

pub returns : goal.returns
unfolding losses temps_after charged_after
returns c =
    let l = c.loop-k-test.false in
    record {
      loses = rw (sum2_iterate, c.total_of.ensures, rest_end _ _ _ _ _ l c.loop-k.invariant.2, c.start-a.ensures);
      leaves = updating_end _ _ _ _ _ l c.loop-k.invariant.0;
      charged_with = updating_end _ _ _ _ _ l c.loop-k.invariant.1;
    }
