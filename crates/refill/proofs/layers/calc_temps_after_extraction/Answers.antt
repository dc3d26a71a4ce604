-- `layers::calc_temps_after_extraction` meets its contract (01, Refill). The invariants: filling the layers left gives the whole refill, they still have the
-- temperatures from before the event, and the volumes kept are those of the next layer; taking from the donors left gives what all of them give.
use mathlib.Core.Path.{sym, ap, ◌∙◌}
use mathlib.Core.Bool.{◌||◌}
use Rattle.numeric.specs.Descent.{descent_next, descent_stop, descent_end}
use Rattle.refill.specs.Refill.{refill}
use Rattle.refill.proofs.Descents.{refill_descends}
use Rattle.refill.proofs.Filled.{lack_told, layer_refilled}
use Rattle.refill.proofs.Refilling.{left_next}
use Rattle.refill.proofs.Repeating.{layer_repeated, repeats_next}
use Rattle.refill.proofs.layers.calc_temps_after_extraction.Goals as goal
use Rattle.refill.proofs.layers.calc_temps_after_extraction.Goals.{else-donors-test, then-donors-test+then-is_no_volume-2}

pub filling-preserved-then-is_over_full : goal.filling-preserved-then-is_over_full
filling-preserved-then-is_over_full c =
    let at = c.filling in
    let a = c.args in
    let over = c.is_over_full.ensures c.if-is_over_full.true in (
      left_next a.tank.now.vol a.feed a.temps.now _ _ _ _ _ at.mixes _ _ at.mixes at.invariant.0 c.filling-test.true over.upper.repeats.some (layer_repeated _ _ _ c.in-Some.volumes over a.feed _ at.mixes),
      repeats_next _ _ _ c.in-Some.volumes over,
    )

pub donors-preserved : goal.donors-preserved
donors-preserved c =
    rw c.take_from-f.ensures (descent_next _ _ _ _ _ _ c.donors-test.true (sym c.is_no_volume-in-donors.ensures ∙ c.if-is_no_volume-2.false) c.donors.invariant)

pub filling-preserved : goal.filling-preserved
filling-preserved c =
    let at = c.filling in
    let a = c.args in (
      left_next a.tank.now.vol a.feed a.temps.now _ _ _ _ _ at.mixes _ _ _ at.invariant.0 c.filling-test.true
          (lack_told _ _ _ c.new-f.result _ _ c.new-f.ensures c.is_no_volume.ensures c.if-is_no_volume.false)
          (layer_refilled a.tank.now.vol a.feed _ _ _ _ at.mixes c.donors.held c.new-f.result c.donors.f c.take_from_feed-f.result _ record {
            starts = c.new-f.ensures;
            donors =
                elim c.donors-test.branch [
                  | else-donors-test w ↦ descent_end _ _ _ _ _ _ w.donors-test.false c.donors.invariant
                  | then-donors-test+then-is_no_volume-2 w ↦
                      descent_stop _ _ _ _ _ _ w.donors-test.true (sym w.is_no_volume-in-donors.ensures ∙ w.if-is_no_volume-2.true) c.donors.invariant
                ];
            fed = c.take_from_feed-f.ensures _;
            warmer = ap (λ b. at.mixes || b) (c.does_enter_warmer-mixes.ensures _);
          }),
      c.keep_filling-kept-in-filling.ensures,
    )

pub returns-after-filling : goal.returns-after-filling
unfolding refill
returns-after-filling c = rw refill_descends (descent_end _ _ _ _ _ _ c.filling-test.false c.filling.invariant.0.descent)

pub returns-then-is_no_volume : goal.returns-then-is_no_volume
unfolding refill
returns-then-is_no_volume c =
    rw refill_descends (descent_stop _ _ _ _ _ _ c.filling-test.true (lack_told _ _ _ c.new-f.result _ _ c.new-f.ensures c.is_no_volume.ensures c.if-is_no_volume.true) c.filling.invariant.0.descent)
