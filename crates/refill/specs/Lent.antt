-- States how the code holds a refill (01, Refill): the layers in lent arrays, and a flag.
use Rattle.std.specs.Prelude.{Bool, List, Float}
use Rattle.refill.specs.Refill.{Refill}

abbrev pub refill_of : List Float → List Float → Bool → Refill
refill_of held temps mixes = record { held = held; temps = temps; mixes = mixes }
