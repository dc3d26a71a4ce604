-- Proves that a mixing keeps the number of places (01, Mix).
use mathlib.Core.Bool.{Bool, true, false}
use mathlib.Core.Path.{◌≡◌, refl, ◌∙◌}
use mathlib.Core.List.{List}
use Prim.Native.Nat.{ℕ, zero, suc, ◌+◌, ◌-◌}
use native.Mathlib.Omega.{arith}
use lib.Ieee.{Float}
use lib.ListN.{length, set, length-set}
use Rattle.numeric.specs.Iterate.{iterate_keep}
use Rattle.mixing.specs.Limits.{max_rounds}
use Rattle.mixing.specs.Round.{Walk, group_temp, fill, pair, one_round}
use Rattle.mixing.specs.Rearrange.{is_sorted, rounds, rearrange}
use Rattle.mixing.specs.Mix.{temps_of}
use Rattle.mixing.proofs.Group.{pair_either}

module _ (m : ℕ) where
  abbrev pub Long : List Float → Type 0
  Long temps = length temps ≡ m

  fill_length : (i end : ℕ) (x : Float) (temps : List Float) → Long temps → Long (fill i end x temps)
  fill_length i end x temps e =
      iterate_keep (λ (k : ℕ) (t : List Float). set t k x) Long (i + (end - i)) (λ k t h r. length-set t k x ∙ r) (end - i) i temps (omega arith) e

  module _ (n : ℕ) (vol : List Float) where
    pub pair_length : (i : ℕ) (w : Walk) → Long w.temps → Long (pair n vol i w).temps
    pair_length i w e =
        pair_either n vol i w (λ (z : Walk). Long z.temps)
        (fill_length w.bottom (i + 2) (group_temp n vol w.temps w.bottom (i + 2)) w.temps e) e

    pub round_length : (temps : List Float) → Long temps → Long (one_round n vol temps)
    unfolding one_round
    round_length temps e =
        iterate_keep (pair n vol) (λ (w : Walk). Long w.temps) (n - 1) (λ i w h r. pair_length i w r) (n - 1) 0 (record { temps = temps; bottom = 0 }) (omega arith) e

    rounds_length : (left : ℕ) (b : Bool) (k : ℕ) (temps old : List Float) → Long temps → Long old → Long (temps_of old (rounds left b k n vol temps))
    unfolding rounds
    rounds_length zero true k temps old e o = e
    rounds_length zero false k temps old e o = o
    rounds_length (suc left) true k temps old e o = e
    rounds_length (suc left) false k temps old e o =
        rounds_length left (is_sorted n (one_round n vol temps)) (k + 1) (one_round n vol temps) old (round_length temps e) o

-- the law
pub rearrange_length : (n : ℕ) (vol temps : List Float) → length (temps_of temps (rearrange n vol temps)) ≡ length temps
unfolding rearrange
rearrange_length n vol temps = rounds_length (length temps) n vol (max_rounds n) false 0 temps temps refl refl
