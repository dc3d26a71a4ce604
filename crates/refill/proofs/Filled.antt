-- Proves the filling of one layer from its parts (01, Refill): what the donors gave, then what the feed gave, and whether the event ends in a mixing.
use Prim.Native.Nat.{ℕ}
use mathlib.Core.Path.{◌≡◌, sym, ◌∙◌}
use mathlib.Core.Bool.{Bool, ◌||◌}
use mathlib.Core.List.{List}
use lib.ListN.{get_or, set}
use lib.Ieee.{Float, nan}
use Rattle.numeric.specs.Double.{◌⊖◌, ◌⊘◌}
use Rattle.numeric.specs.Descent.{descend}
use Rattle.cylinder.specs.Layers.{no_volume}
use Rattle.draw_off.specs.declared.cold.Feed.{Feed}
use Rattle.layer_filling.specs.declared.LayerFilling.{LayerFilling}
use Rattle.layer_filling.specs.Filling.{take_from, take_below, from_feed, enters_warmer}
use Rattle.refill.specs.Refill.{filling_of, refill_layer}
use Rattle.layer_filling.specs.Lent.{filling_with, start_filling}
use Rattle.refill.specs.Lent.{refill_of}
use Rattle.refill.proofs.Descents.{lack_none, donors_descend}

-- what the test of the filling's lack, as it starts, says of the layer
pub lack_told : (full held t : Float) (s : LayerFilling) (r b : Bool) → s ≡ start_filling full held t → r ≡ no_volume s.lack → r ≡ b → no_volume (full ⊖ held) ≡ b
lack_told full held t s r b starts test told = rw starts at (sym test ∙ told)

-- the filling of the layer i: s as it starts, f after the donors, which leave `given`, g after the feed; b says whether the event now ends in a mixing
pub record LayerParts (vol : List Float) (feed : Feed) (before : List Float) (i : ℕ) (held : List Float) (mixes : Bool) (given : List Float) (s f g : LayerFilling) (b : Bool) : Type 0 where
  pub starts : s ≡ start_filling (get_or vol i nan) (get_or held i nan) (get_or before i nan)
  pub donors : filling_with given f ≡ descend lack_none (take_from before) i (filling_with held s)
  pub fed : filling_with given g ≡ from_feed feed (filling_with given f)
  pub warmer : b ≡ (mixes || enters_warmer feed (filling_with given f))

pub layer_refilled : (vol : List Float) (feed : Feed) (before : List Float) (i : ℕ) (held temps : List Float) (mixes : Bool) (given : List Float) (s f g : LayerFilling) (b : Bool) → LayerParts vol feed before i held mixes given s f g b → refill_of (set given i g.volume) (set temps i (g.weighted ⊘ g.volume)) b ≡ refill_layer vol feed before i (refill_of held temps mixes)
unfolding refill_layer filling_of
layer_refilled vol feed before i held temps mixes given s f g b p =
    let below : filling_with given f ≡ take_below before i (filling_with held (start_filling (get_or vol i nan) (get_or held i nan) (get_or before i nan))) = rw donors_descend (rw p.starts at p.donors) in
    rw (← below, ← p.fed, p.warmer)
