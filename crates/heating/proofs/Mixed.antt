-- Proves what `calc_final_temps` comes to by the answer of its mixing (01, Heat; refusal 9).
use mathlib.Core.Path.{◌≡◌, refl, sym, ◌∙◌}
use mathlib.Core.List.{List}
use Prim.Native.Nat.{ℕ}
use native.Mathlib.Omega.{arith}
use lib.Ieee.{Float}
use Rattle.std.specs.Prelude.{Result, Ok, Err}
use Rattle.refusals.specs.declared.Refusal.{Refusal}
use Rattle.refusals.specs.declared.Refusal.TheVariants.{OutOfOrder}
use Rattle.mixing.specs.Rearrange.{Mixing, sorted, unsorted, rearrange}
use Rattle.mixing.specs.Mix.{answer_of, temps_of, Rearranged}
use Rattle.cylinder.specs.declared.Cylinder.{Cylinder}
use Rattle.set_points.specs.declared.SetPoints.{SetPoints}
use Rattle.heating.specs.Heat.{heated}
use Rattle.heating.specs.FinalTemps.{heat_and_mix, after_mixing, calc_final_temps}

-- an answer tells the mixing
mixed_sorted : (x : Mixing) (temps : List Float) (k : ℕ) → answer_of x ≡ Ok k → x ≡ sorted (temps_of temps x) k
mixed_sorted (sorted after j) temps k e = let same : j ≡ k = cc in rw same
mixed_sorted unsorted temps k e = grind arith

refused_unsorted : (x : Mixing) (r : Refusal) → answer_of x ≡ Err r → x ≡ unsorted
refused_unsorted (sorted after j) r e = grind arith
refused_unsorted unsorted r e = refl

out_of_order : (x : Mixing) (r : Refusal) → answer_of x ≡ Err r → r ≡ OutOfOrder
out_of_order (sorted after j) r e = grind arith
out_of_order unsorted r e = grind arith

-- a mixing's refusal is 9
pub refused_nine : (n : ℕ) (vol heat : List Float) (r : Refusal) (answer : Result ℕ Refusal) → answer ≡ answer_of (rearrange n vol heat) → answer ≡ Err r
    → r ≡ OutOfOrder
refused_nine n vol heat r answer a m = out_of_order (rearrange n vol heat) r (sym a ∙ m)

module _ (c : Cylinder) (vol : List Float) (p : SetPoints) (layer : ℕ) (offers : ℕ → Float) (temps charged heat : List Float)
    (g : heat ≡ heated c vol offers temps) where
  final_mixing : (x : Mixing) → rearrange c.layers vol heat ≡ x
      → calc_final_temps c vol p layer offers temps charged ≡ after_mixing c vol p layer offers temps charged x
  unfolding calc_final_temps heat_and_mix
  final_mixing x m = rw (← g, m)

  pub final_sorted : (after : List Float) (k : ℕ) (answer : Result ℕ Refusal) → Rearranged c.layers vol heat answer after → answer ≡ Ok k
      → calc_final_temps c vol p layer offers temps charged ≡ after_mixing c vol p layer offers temps charged (sorted after k)
  final_sorted after k answer r m = final_mixing (sorted after k) (rw r.leaves (mixed_sorted (rearrange c.layers vol heat) heat k (sym r.answers ∙ m)))

  pub final_unsorted : (r : Refusal) (answer : Result ℕ Refusal) → answer ≡ answer_of (rearrange c.layers vol heat) → answer ≡ Err r
      → calc_final_temps c vol p layer offers temps charged ≡ after_mixing c vol p layer offers temps charged unsorted
  final_unsorted r answer a m = final_mixing unsorted (refused_unsorted (rearrange c.layers vol heat) r (sym a ∙ m))
