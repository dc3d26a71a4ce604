-- States the Sum2 of a tank's first layers, kept from event to event (01, Draw): a draw leaves the layers that it does not reach full, so their sum need not be
-- worked again.
use Rattle.std.specs.Prelude.{ℕ, ◌≡◌, List, get_or, Float}
use Rattle.std.specs.Float.{nan}
use Rattle.numeric.specs.declared.sum2.Accumulator.{Accumulator}
use Rattle.numeric.specs.Iterate.{iterate}
use Rattle.numeric.specs.Sum2.{nothing_added, add_at}
use Rattle.draw_events.specs.declared.kept.KeptSum.{KeptSum}

-- Sum2 of the first n places, before its correction is added
unfoldable pub sum_of_first : List Float → ℕ → Accumulator
sum_of_first xs n = iterate (add_at (λ (k : ℕ). get_or xs k nan)) n 0 nothing_added

-- the kept sum is that of so many places of xs
abbrev pub IsSumOf : List Float → KeptSum → Type 0
IsSumOf xs kept = kept.sum ≡ sum_of_first xs kept.layers
