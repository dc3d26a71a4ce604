-- `close::is_close_pair` meets its contract (01, Arithmetic underneath): the two distances of `within`, and the test of an infinite number last.
use Rattle.std.proofs.Common.{rules}
use Rattle.numeric.proofs.Within.{closes}
use Rattle.numeric.proofs.close.is_close_pair.Goals as goal

pub returns-then-distance-e : goal.returns-then-distance-e
returns-then-distance-e c = closes _ _ _ (search rules) (search rules) _ (rw c.if-distance-e.true)

pub returns-then-distance-upper : goal.returns-then-distance-upper
returns-then-distance-upper c = closes _ _ _ (search rules) (search rules) _ (rw (c.is_infinite.ensures, c.if-distance-e.false, c.if-distance-upper.true))

pub returns-else-distance-upper : goal.returns-else-distance-upper
returns-else-distance-upper c = closes _ _ _ (search rules) (search rules) _ (rw (c.if-distance-e.false, c.if-distance-upper.false))
