-- `facts::facts_in_order` meets its contract (01, Turn). The loop's invariant: the first k turns stand in the first k places.
use Rattle.std.proofs.Common.{◌≡◌, map}
use Rattle.numeric.specs.Copy.{copied}
use Rattle.job_history.specs.Facts.{no_facts}
use Rattle.job_history.specs.Lent.{fact_in}
use Rattle.job_history.proofs.facts.facts_in_order.Given as goal

abbrev pub invariant-loop-k : goal.invariant-loop-k
invariant-loop-k l = l.r.facts ≡ copied l.k (map (fact_in l.settings l.notes) l.order) no_facts
