-- Proves that a test holds of all numbers of a range just where it holds of so many places from the first on.
use Rattle.std.proofs.Common.{ℕ, zero, suc, ◌+◌, Bool, ◌&&◌, ◌≡◌, refl, ap}
use Rattle.std.specs.List.{list_all, range_with_len}
use Rattle.numeric.specs.Holds.{holds}

pub all_in_range : (p : ℕ → Bool) (n i : ℕ) → list_all p (range_with_len i n) ≡ holds p n i
unfolding holds
all_in_range p zero i = refl
all_in_range p (suc n) i = ap (λ (b : Bool). p i && b) (all_in_range p n (i + 1))
