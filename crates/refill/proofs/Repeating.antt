-- Proves that a layer that repeats may be filled by the volumes kept of the layer above it (01, Refill): that is one turn of the refill, and it leaves the
-- layer below to repeat in its turn.
use Prim.Native.Nat.{ℕ, zero, suc, ◌-◌, ◌<◌}
use native.Mathlib.Omega.{arith}
use mathlib.Core.Path.{◌≡◌, refl, sym, ◌∙◌}
use mathlib.Core.Bool.{Bool, true, false, cond, true≢false}
use mathlib.Core.List.{List, [], ◌∷◌}
use lib.ListN.{length, get_or, set}
use lib.Seq.{get_or-set_same, get_or-set_other}
use lib.Ieee.{Float, nan, inf, fin, lt, eq, of_bits}
use lib.Ieee.Scale.{finite}
use Rattle.std.proofs.Math.Bool.{or-false}
use Rattle.numeric.specs.Double.{◌⊕◌, ◌⊖◌, ◌⊛◌, ◌⊘◌, zero_f}
use Rattle.numeric.specs.Compare.{min_of2}
use Rattle.numeric.specs.Close.{wide_close, close}
use Rattle.numeric.proofs.Difference.{minus_self}
use Rattle.cylinder.specs.Layers.{no_volume}
use Rattle.draw_off.specs.declared.cold.Feed.{Feed}
use Rattle.repeating_layers.specs.declared.KeptFilling.{KeptFilling}
use Rattle.layer_filling.specs.Filling.{Filling, take_share, take_from, take_below, from_feed, enters_warmer}
use Rattle.refill.specs.Refill.{lack_of, filling_of, refill_layer}
use Rattle.refill.specs.Lent.{refill_of}
use Rattle.repeating_layers.specs.Repeats.{RepeatsAt, OverFull}

-- a lack that is some, and less than another, is finite
lack_finite : (x y : Float) → no_volume x ≡ false → lt x y ≡ true → finite x ≡ true
unfolding no_volume lt of_bits
lack_finite nan y n l = absurd (true≢false (sym l))
lack_finite (inf true) y n l = absurd (true≢false n)
lack_finite (inf false) nan n l = absurd (true≢false (sym l))
lack_finite (inf false) (inf s) n l = absurd (true≢false (sym l))
lack_finite (inf false) (fin s m e) n l = absurd (true≢false (sym l))
lack_finite (fin s m e) y n l = refl

-- a place that has a double above zero is there
place_there : (xs : List Float) (d : ℕ) → lt zero_f (get_or xs d nan) ≡ true → d < length xs
unfolding lt of_bits
place_there [] d l = absurd (true≢false (sym l))
place_there (x ∷ xs) zero l = omega arith
place_there (x ∷ xs) (suc d) l = let h = place_there xs d l in omega arith

zero_is_none : no_volume zero_f ≡ true
unfolding no_volume wide_close close lt eq of_bits
zero_is_none = refl

-- ---- a layer whose lack the layer below it closes
module _ (vol : List Float) (feed : Feed) (before : List Float) where
  closed : (j : ℕ) (f : Filling) → no_volume f.lack ≡ true → take_below before j f ≡ f
  unfolding take_below
  closed zero f h = refl
  closed (suc j) f h = rw h

  take_first : (i d : ℕ) (f : Filling) → i ≡ suc d → take_below before i f ≡ cond (no_volume f.lack) f (take_below before d (take_from before d f))
  unfolding take_below
  take_first i d f e = rw e

  -- the layer i, over the donor d next below it
  module _ (i d : ℕ) (next : i ≡ suc d) (held : List Float) (some : no_volume (lack_of vol i held) ≡ false) (donor : lt zero_f (get_or held d nan) ≡ true) (enough : lt (lack_of vol i held) (get_or held d nan) ≡ true) where
    abbrev lack : Float
    lack = lack_of vol i held

    abbrev weight : Float
    weight = get_or held i nan ⊛ get_or before i nan ⊕ lack ⊛ get_or before d nan

    abbrev given : Filling
    given = record {
      held = set held d (get_or held d nan ⊖ lack);
      lack = zero_f;
      volume = get_or held i nan ⊕ lack;
      weighted = weight;
      coldest = min_of2 (get_or before d nan) (get_or before i nan);
    }

    filling_next : filling_of vol feed before i held ≡ given
    unfolding filling_of take_from take_share min_of2
    filling_next = rw (take_first i d _ next, some, donor, enough, minus_self lack (lack_finite lack (get_or held d nan) some enough)) (closed d given zero_is_none)

    layer_next : (temps : List Float) (mixes : Bool) → refill_layer vol feed before i (refill_of held temps mixes) ≡ refill_of (set (set held d (get_or held d nan ⊖ lack)) i (get_or held i nan ⊕ lack)) (set temps i (weight ⊘ (get_or held i nan ⊕ lack))) mixes
    unfolding refill_layer from_feed enters_warmer lt of_bits
    layer_next temps mixes = rw (filling_next, or-false mixes)

-- ---- a layer that repeats, over a full one
module _ (vol held : List Float) (i : ℕ) (kept : KeptFilling) (o : OverFull vol held i kept) where
  -- what it and the layer below it then hold
  abbrev held_after : List Float
  held_after = set (set held (i - 1) kept.held) i kept.after

  -- it is filled as the refill fills it
  pub layer_repeated : (feed : Feed) (temps : List Float) (mixes : Bool) → refill_of held_after (set temps i ((kept.held ⊛ get_or temps i nan ⊕ kept.lack ⊛ get_or temps (i - 1) nan) ⊘ kept.after)) mixes ≡ refill_layer vol feed temps i (refill_of held temps mixes)
  layer_repeated feed temps mixes =
      let u = o.upper in
      let r = u.repeats in
      let h = o.there in
      rw (u.holds, u.lacks, u.has)
      (sym (rw (o.full, r.again) at (layer_next vol feed temps i (i - 1) (omega arith) held r.some (rw o.full r.above) (rw o.full r.enough) temps mixes)))

  -- and the layer below it repeats in its turn
  pub repeats_next : RepeatsAt vol held_after (i - 1) kept
  repeats_next =
      let u = o.upper in
      let h = o.there in
      let lower = get_or-set_same held (i - 1) kept.held nan (place_there held (i - 1) (rw o.full u.repeats.above)) in
      let e : get_or held_after (i - 1) nan ≡ get_or held i nan = get_or-set_other (set held (i - 1) kept.held) i (i - 1) kept.after nan (λ q. omega arith) ∙ lower ∙ u.holds in
      record {
        repeats = rw (e, o.alike) u.repeats;
        volume = rw o.alike u.volume;
        holds = rw e u.holds;
        lacks = rw (e, o.alike) u.lacks;
        has = rw (e, o.alike) u.has;
      }
