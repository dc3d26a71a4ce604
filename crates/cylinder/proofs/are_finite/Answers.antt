-- `are_finite` meets its contract: the chain's test of the first places is that of each place below n.
use native.Mathlib.Omega.{arith}
use lib.Ieee.{nan}
use lib.Ieee.Scale.{finite}
use Rattle.cylinder.specs.Layers.{all_finite}
use Rattle.cylinder.proofs.FirstPlaces.{all_first}
use Rattle.cylinder.proofs.are_finite.Goals as goal

pub returns : goal.returns
unfolding all_finite
returns c = rw (← all_first finite c.args.xs.now nan c.args.n (omega (arith, c.requires, c.told-xs))) c.is_each_finite.ensures
