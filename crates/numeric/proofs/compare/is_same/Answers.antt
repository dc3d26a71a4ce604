-- `compare::is_same` meets its contract (01, Arithmetic underneath): equal doubles are the same, but for zeros of two signs.
use mathlib.Core.Path.{refl}
use denote.Floats.{passes}
use Rattle.numeric.proofs.SameValue.{equal_same, same_above}
use Rattle.numeric.proofs.compare.is_same.Goals as goal

pub returns : goal.returns
returns c = record { compares = refl; same = λ e l. same_above c.args.x c.args.y (equal_same c.args.x c.args.y (passes _ c.well_formed.0.1) (passes _ c.well_formed.1.0.1) e) l }
