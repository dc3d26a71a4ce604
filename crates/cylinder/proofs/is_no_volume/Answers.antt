-- `is_no_volume` meets its contract: one comparison finds no volume to speak of.
use mathlib.Core.Path.{sym}
use denote.Floats.{passes}
use Rattle.cylinder.proofs.NoVolume.{no_volume_lem}
use Rattle.cylinder.proofs.is_no_volume.Goals as goal

pub returns : goal.returns
returns c = sym (no_volume_lem c.args.v (passes _ c.well_formed.0.1))
