-- `one_term` meets its contract (01, Arithmetic underneath): of one finite term nothing is lost.
use mathlib.Core.Path.{sym}
use denote.Floats.{passes}
use Rattle.numeric.proofs.Members.{one_term}
use Rattle.shorter_sums.proofs.one_term.Goals as goal

pub returns : goal.returns
returns c = λ f. sym (one_term c.args.b (passes _ c.well_formed.0.1) (passes _ f))
