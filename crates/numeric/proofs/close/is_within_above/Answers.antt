-- `close::is_within_above` meets its contract (01, Arithmetic underneath): the two distances of `within`, the relative one first.
use mathlib.Core.Path.{sym, ◌∙◌}
use denote.Floats.{passes}
use Rattle.std.proofs.Common.{rules}
use Rattle.numeric.proofs.Within.{within_above}
use Rattle.numeric.proofs.close.is_within_above.Goals as goal

pub returns-then-distance-b : goal.returns-then-distance-b
returns-then-distance-b c = λ f g h.
    sym (within_above _ _ _ (passes _ (search rules)) (passes _ (search rules)) (passes _ f) (passes _ g) (search rules) h ∙ rw c.if-distance-b.true)

pub returns-else-distance-b : goal.returns-else-distance-b
returns-else-distance-b c = λ f g h.
    sym (within_above _ _ _ (passes _ (search rules)) (passes _ (search rules)) (passes _ f) (passes _ g) (search rules) h ∙ rw c.if-distance-b.false)
