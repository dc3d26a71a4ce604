-- Proves that a draw leaves the layers that it does not reach as they were (01, Draw).
use Prim.Native.Nat.{ℕ, zero, suc, ◌-◌, ◌≤◌, ◌<◌}
use native.Mathlib.Omega.{arith}
use native.Mathlib.Numerals.{sub-one}
use mathlib.Core.Path.{◌≡◌, refl, sym, ◌∙◌}
use mathlib.Core.Bool.{Bool, true, false, cond}
use mathlib.Core.List.{List}
use lib.ListN.{get_or}
use lib.Seq.{get_or-set_other}
use lib.Ieee.{Float, nan, lt}
use Rattle.numeric.specs.Double.{zero_f}
use Rattle.numeric.specs.Descent.{Descent, chosen, descent_start, descent_next}
use Rattle.cylinder.specs.declared.Cylinder.{Cylinder}
use Rattle.cylinder.specs.Layers.{no_volume}
use Rattle.draw_off.specs.declared.cold.Feed.{Feed}
use Rattle.draw_off.specs.Draw.{Draw, draw_share, draw_layer, draw_layers, unreached, draw_feed, draw_start, extract, untouched}
use Rattle.draw_off.proofs.Descents.{rest_none}

-- the first n places have the same
abbrev pub SameBelow : ℕ → List Float → List Float → Type 0
SameBelow n xs ys = (k : ℕ) → k < n → get_or xs k nan ≡ get_or ys k nan

module _ (c : Cylinder) (feed : Feed) (temps : List Float) (wanted : Float) where
  -- the layer i leaves those below it
  layer_leaves : (i : ℕ) (d : Draw) → SameBelow i (draw_layer c feed temps wanted i d).held d.held
  unfolding draw_layer draw_share
  layer_leaves i d k h =
      chosen (λ (e : Draw). get_or e.held k nan ≡ get_or d.held k nan) (no_volume (get_or d.held i nan)) d (draw_share c feed temps wanted i d) refl
      (get_or-set_other d.held i k _ nan (λ q. omega arith))

  reach_step : (i : ℕ) (d : Draw) → 0 < i → unreached c feed temps wanted i d ≡ cond (no_volume d.rest) i (unreached c feed temps wanted (i - 1) (draw_layer c feed temps wanted (i - 1) d))
  unfolding unreached
  reach_step zero d h = absurd (omega arith)
  reach_step (suc i) d h = rw sub-one

  module _ (n : ℕ) (d₀ : Draw) where
    -- where the draw has come to: the layers below i are left
    pub record LayersLeft (i : ℕ) (d : Draw) : Type 0 where
      pub descent : Descent rest_none (draw_layer c feed temps wanted) n d₀ i d
      pub reach : unreached c feed temps wanted i d ≡ unreached c feed temps wanted n d₀

    pub left_start : LayersLeft n d₀
    left_start = record { descent = descent_start rest_none (draw_layer c feed temps wanted) n d₀; reach = refl }

    pub left_layer : (i : ℕ) (d e : Draw) → LayersLeft i d → 0 < i → no_volume d.rest ≡ false → e ≡ draw_layer c feed temps wanted (i - 1) d → LayersLeft (i - 1) e
    left_layer i d e l h some drawn = record {
      descent = rw drawn (descent_next rest_none (draw_layer c feed temps wanted) n d₀ i d h some l.descent);
      reach = rw drawn ((rw some at (sym (reach_step i d h))) ∙ l.reach);
    }

    -- the rest wanted is none
    pub left_stop : (i : ℕ) (d : Draw) → LayersLeft i d → 0 < i → no_volume d.rest ≡ true → i ≡ unreached c feed temps wanted n d₀
    left_stop i d l h none = (rw none at (sym (reach_step i d h))) ∙ l.reach

    -- no layer is left
    pub left_end : (i : ℕ) (d : Draw) → LayersLeft i d → i ≤ 0 → 0 ≡ unreached c feed temps wanted n d₀
    unfolding unreached
    left_end i d l h =
        let e : i ≡ 0 = omega arith in
        rw e at l.reach

  reach_within : (n : ℕ) (d : Draw) → unreached c feed temps wanted n d ≤ n
  unfolding unreached
  reach_within zero d = omega arith
  reach_within (suc i) d =
      let rest = reach_within i (draw_layer c feed temps wanted i d) in
      chosen (λ (m : ℕ). m ≤ suc i) (no_volume d.rest) (suc i) (unreached c feed temps wanted i (draw_layer c feed temps wanted i d)) (omega arith) (omega arith)

  kept_either : (b : Bool) (m k : ℕ) (d e : Draw) (xs : List Float) → SameBelow m d.held xs → SameBelow k e.held xs → SameBelow (cond b m k) (cond b d e).held xs
  kept_either true m k d e xs p q = p
  kept_either false m k d e xs p q = q

  -- what is not reached is as it was
  reach_leaves : (n : ℕ) (d : Draw) → SameBelow (unreached c feed temps wanted n d) (draw_layers c feed temps wanted n d).held d.held
  unfolding unreached draw_layers
  reach_leaves zero d = λ k h. refl
  reach_leaves (suc i) d =
      let next = draw_layer c feed temps wanted i d in
      let within = reach_within i next in
      kept_either (no_volume d.rest) (suc i) (unreached c feed temps wanted i next) d (draw_layers c feed temps wanted i next) d.held (λ k h. refl)
      (λ k h. reach_leaves i next k h ∙ layer_leaves i d k (omega arith))

  feed_leaves : (d : Draw) → (draw_feed c feed d).held ≡ d.held
  unfolding draw_feed
  feed_leaves d = chosen (λ (e : Draw). e.held ≡ d.held) (lt zero_f d.rest) _ d refl refl

-- ---- what the draw did not reach
module _ (c : Cylinder) (feed : Feed) (temps : List Float) (wanted : Float) (vol : List Float) (weighted drawn : Float) where
  pub untouched_within : untouched c vol feed temps wanted weighted drawn ≤ c.layers
  unfolding untouched
  untouched_within = reach_within c feed temps wanted c.layers (draw_start vol wanted weighted drawn)

  pub untouched_same : SameBelow (untouched c vol feed temps wanted weighted drawn) (extract c vol feed temps wanted weighted drawn).held vol
  unfolding untouched extract
  untouched_same = rw feed_leaves (reach_leaves c feed temps wanted c.layers (draw_start vol wanted weighted drawn))
