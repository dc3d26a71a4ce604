-- Proves what a loop cites that changes an array in place, each place from its index and what it holds (Places): the places passed have what the whole gives
-- them, the others still hold what they held.
use Rattle.std.specs.Prelude.{ℕ, ◌+◌, ◌≤◌, ◌<◌, ◌≡◌, refl, List, get_or, set, Float}
use Rattle.std.proofs.Common.{arith, ◌∙◌, get_or-set_other}
use Rattle.std.specs.Float.{nan}
use Rattle.numeric.specs.Iterate.{Rest, rest_start, rest_next, rest_end}
use Rattle.numeric.specs.Places.{update_at, update_first}

-- xs is what xs₀ has become when the places below i of n are changed
pub record Updating (f : ℕ → Float → Float) (n : ℕ) (xs₀ : List Float) (i : ℕ) (xs : List Float) : Type 0 where
  pub rest : Rest (update_at f) n xs₀ i xs
  pub untouched : (j : ℕ) → i ≤ j → get_or xs j nan ≡ get_or xs₀ j nan

module _ (f : ℕ → Float → Float) (n : ℕ) (xs₀ : List Float) where
  pub updating_start : Updating f n xs₀ 0 xs₀
  updating_start = record { rest = rest_start (update_at f) n xs₀; untouched = λ j l. refl }

  pub updating_next : (i : ℕ) (xs : List Float) (x : Float) → i < n → Updating f n xs₀ i xs → x ≡ f i (get_or xs₀ i nan)
      → Updating f n xs₀ (i + 1) (set xs i x)
  updating_next i xs x h u e = record {
    rest = rw (e, ← u.untouched i (omega arith)) (rest_next (update_at f) n xs₀ i xs h u.rest);
    untouched = λ j l. get_or-set_other xs i j x nan (λ same. omega arith) ∙ u.untouched j (omega arith);
  }

  pub updating_end : (i : ℕ) (xs : List Float) → n ≤ i → Updating f n xs₀ i xs → xs ≡ update_first f n xs₀
  updating_end i xs h u = rest_end (update_at f) n xs₀ i xs h u.rest
