-- Proves that the Sum2 of the layers that a draw does not reach may be kept from one event to the next (01, Draw): they are as they were.
use Prim.Native.Nat.{ℕ, zero, suc, ◌+◌, ◌-◌, ◌≤◌}
use native.Mathlib.Omega.{arith}
use mathlib.Core.Path.{◌≡◌, refl, sym, ap, ◌∙◌}
use mathlib.Core.List.{List}
use lib.ListN.{get_or}
use lib.Ieee.{Float, nan}
use Rattle.numeric.specs.declared.sum2.Accumulator.{Accumulator}
use Rattle.numeric.specs.Iterate.{iterate, iterate_split}
use Rattle.numeric.specs.Sum2.{accumulate, nothing_added, add_at}
use Rattle.cylinder.specs.declared.Cylinder.{Cylinder}
use Rattle.draw_off.specs.declared.cold.Feed.{Feed}
use Rattle.draw_off.specs.declared.draw.Drawn.{Drawn}
use Rattle.draw_off.specs.Draw.{extract, untouched}
use Rattle.draw_off.specs.Lent.{draw_of}
use Rattle.draw_off.proofs.Untouched.{SameBelow, untouched_within, untouched_same}
use Rattle.draw_events.specs.declared.kept.KeptSum.{KeptSum}
use Rattle.draw_events.specs.Kept.{sum_of_first, IsSumOf}

-- ---- the sum of layers that are as they were
module _ (xs ys : List Float) (n : ℕ) (same : SameBelow n xs ys) where
  terms_same : (k i : ℕ) (a : Accumulator) → i + k ≤ n → iterate (add_at (λ (j : ℕ). get_or xs j nan)) k i a ≡ iterate (add_at (λ (j : ℕ). get_or ys j nan)) k i a
  unfolding iterate
  terms_same zero i a h = refl
  terms_same (suc k) i a h = rw (same i (omega arith)) (terms_same k (i + 1) (accumulate a (get_or ys i nan)) (omega arith))

  -- a kept sum is that of any layers that have the same
  sum_moved : (kept : KeptSum) → kept.layers ≡ n → IsSumOf ys kept → IsSumOf xs kept
  unfolding sum_of_first
  sum_moved kept e s = s ∙ rw e (sym (terms_same n 0 nothing_added (omega arith)))

-- ---- what the draw did not reach, and its sum
module _ (c : Cylinder) (feed : Feed) (temps : List Float) (wanted : Float) (vol : List Float) (weighted drawn : Float) where
  -- the draw leaves `held` and answers d; the sum kept of the full layers that it did not reach is still theirs
  pub sum_untouched : (held : List Float) (d : Drawn) (kept : KeptSum) → (draw_of held d ≡ extract c vol feed temps wanted weighted drawn) × (d.untouched ≡ untouched c vol feed temps wanted weighted drawn) → (kept.layers ≡ d.untouched) × IsSumOf vol kept → (kept.layers ≤ c.layers) × IsSumOf held kept
  sum_untouched held d kept draws sum =
      let within = untouched_within c feed temps wanted vol weighted drawn in
      let left : SameBelow d.untouched held vol = rw draws.1 (rw (← draws.0) at (untouched_same c feed temps wanted vol weighted drawn)) in
      (omega (arith, draws.1, sum.0), sum_moved held vol d.untouched left kept sum.0 sum.1)

-- from a kept sum on, the other layers give the sum of all
pub sum_finished : (xs : List Float) (kept : KeptSum) (n : ℕ) → kept.layers ≤ n → IsSumOf xs kept → iterate (add_at (λ (j : ℕ). get_or xs j nan)) (n - kept.layers) kept.layers kept.sum ≡ iterate (add_at (λ (j : ℕ). get_or xs j nan)) n 0 nothing_added
unfolding sum_of_first
sum_finished xs kept n h s =
    let g = add_at (λ (j : ℕ). get_or xs j nan) in
    let e : n ≡ kept.layers + (n - kept.layers) = omega arith in
    let z : 0 + kept.layers ≡ kept.layers = omega arith in
    rw s (sym (ap (λ (m : ℕ). iterate g m 0 nothing_added) e ∙ iterate_split g kept.layers (n - kept.layers) 0 nothing_added ∙ ap (λ (m : ℕ). iterate g (n - kept.layers) m (iterate g kept.layers 0 nothing_added)) z))
