-- `round::does_join_finite` meets its contract (01, Mix): at least as hot, or else within the narrow tolerance.
use mathlib.Core.Path.{sym, ◌∙◌}
use lib.Ieee.Bits.{is_true}
use Rattle.mixing.proofs.Joins.{joins_not_below, joins_below}
use Rattle.running_group.proofs.round.does_join_finite.Goals as goal

pub returns-then-lower-upper : goal.returns-then-lower-upper
returns-then-lower-upper c = λ f g. joins_not_below _ _ c.if-lower-upper.true ∙ sym c.if-lower-upper.true

pub returns-else-lower-upper : goal.returns-else-lower-upper
returns-else-lower-upper c = λ f g. joins_below _ _ f g c.if-lower-upper.false ∙ sym (c.is_within_above.ensures (is_true _ f) (is_true _ g) c.if-lower-upper.false)
