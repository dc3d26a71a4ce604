-- Proves that the refill may read the temperatures where it writes them (01, Refill): a layer and its donors are read before any of them is written, so what is
-- read is from before the event.
use Prim.Native.Nat.{ℕ, zero, suc, ◌+◌, ◌-◌, ◌<◌}
use native.Mathlib.Omega.{arith}
use mathlib.Core.Path.{◌≡◌, refl, ◌∙◌}
use mathlib.Core.Bool.{Bool, false}
use mathlib.Core.List.{List}
use lib.ListN.{set}
use lib.Seq.{get_or-set_other}
use lib.Ieee.{Float, nan}
use Rattle.numeric.specs.Descent.{Descent, descent_next}
use Rattle.cylinder.specs.Layers.{no_volume}
use Rattle.draw_off.specs.declared.cold.Feed.{Feed}
use Rattle.layer_filling.specs.Filling.{Filling, take_share, take_from, take_below, from_feed, enters_warmer}
use Rattle.refill.specs.Refill.{Refill, lack_of, filling_of, refill_layer}
use Rattle.refill.specs.Lent.{refill_of}
use Rattle.refill.proofs.Descents.{lacks_none}
use Rattle.draw_off.proofs.Untouched.{SameBelow}

-- a layer is filled alike from temperatures that agree up to it
module _ (vol : List Float) (feed : Feed) (xs ys : List Float) where
  donors_same : (j : ℕ) (f : Filling) → SameBelow j xs ys → take_below xs j f ≡ take_below ys j f
  unfolding take_below take_from take_share
  donors_same zero f same = refl
  donors_same (suc j) f same = rw (same j (omega arith), donors_same j (take_from ys j f) (λ k l. same k (omega arith)))

  layer_same : (i : ℕ) (r : Refill) → SameBelow (i + 1) xs ys → refill_layer vol feed xs i r ≡ refill_layer vol feed ys i r
  unfolding refill_layer filling_of from_feed enters_warmer
  layer_same i r same = rw (same i (omega arith), donors_same i _ (λ k l. same k (omega arith)))

module _ (vol : List Float) (feed : Feed) (before : List Float) (n : ℕ) (start : Refill) where
  -- where the refill has come to: the layers below i are left, and still have the temperatures from before the event
  pub record RefillLeft (i : ℕ) (held temps : List Float) (mixes : Bool) : Type 0 where
    pub descent : Descent (lacks_none vol feed before) (refill_layer vol feed before) n start i (refill_of held temps mixes)
    pub same : SameBelow i temps before

  -- one layer, filled from the temperatures as they stand
  pub left_next : (i : ℕ) (held temps : List Float) (mixes : Bool) (given : List Float) (x : Float) (b : Bool) → RefillLeft i held temps mixes → 0 < i → no_volume (lack_of vol (i - 1) held) ≡ false → refill_of given (set temps (i - 1) x) b ≡ refill_layer vol feed temps (i - 1) (refill_of held temps mixes) → RefillLeft (i - 1) given (set temps (i - 1) x) b
  left_next i held temps mixes given x b l h some filled =
      let w = l.descent.0 in
      record {
        descent = rw (filled, layer_same vol feed temps before (i - 1) (refill_of held temps mixes) (λ k u. l.same k (omega arith))) (descent_next _ _ n start i (refill_of held temps mixes) h some l.descent);
        same = λ k u. get_or-set_other temps (i - 1) k x nan (λ q. omega arith) ∙ l.same k (omega arith);
      }
