-- States layers that repeat (01, Refill): a layer takes from the full layer below it just what the layer above took from it, so that both lack the same,
-- take the same and have the same volume after. What the refill keeps of the one serves the other.
use Rattle.std.specs.Prelude.{ℕ, ◌-◌, ◌<◌, ◌≡◌, true, false, List, get_or, Float}
use Rattle.std.specs.Float.{nan}
use Rattle.std.specs.Float.Ieee.{lt}
use Rattle.numeric.specs.Double.{◌⊕◌, ◌⊖◌, zero_f}
use Rattle.cylinder.specs.Layers.{no_volume}
use Rattle.repeating_layers.specs.declared.KeptFilling.{KeptFilling}

-- a layer that holds `held` of `full` lacks some; a full layer below it has more than that, and is left with `held` in its turn
pub record Repeats (full held : Float) : Type 0 where
  pub some : no_volume (full ⊖ held) ≡ false
  pub enough : lt (full ⊖ held) full ≡ true
  pub above : lt zero_f full ≡ true
  pub again : full ⊖ (full ⊖ held) ≡ held

-- the layer i repeats, and the volumes kept are its own
pub record RepeatsAt (vol held : List Float) (i : ℕ) (kept : KeptFilling) : Type 0 where
  pub repeats : Repeats (get_or vol i nan) (get_or held i nan)
  pub volume : kept.full ≡ get_or vol i nan
  pub holds : kept.held ≡ get_or held i nan
  pub lacks : kept.lack ≡ get_or vol i nan ⊖ get_or held i nan
  pub has : kept.after ≡ get_or held i nan ⊕ (get_or vol i nan ⊖ get_or held i nan)

-- so it does, and the layer next below it is as large, and full
pub record OverFull (vol held : List Float) (i : ℕ) (kept : KeptFilling) : Type 0 where
  pub upper : RepeatsAt vol held i kept
  pub there : 0 < i
  pub alike : get_or vol (i - 1) nan ≡ get_or vol i nan
  pub full : get_or held (i - 1) nan ≡ get_or vol i nan
