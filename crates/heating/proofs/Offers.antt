-- Proves that the input is the Sum2 of the one offer (01, Losses and limit): the offers to the other layers are zeros.
use mathlib.Core.Path.{◌≡◌, refl, ap, ◌∙◌}
use mathlib.Core.Bool.{Bool, true, false, cond}
use mathlib.Core.Logic.{◌⊎◌, inl, inr}
use Prim.Native.Nat.{ℕ, ◌+◌, ◌-◌, ◌≤◌, ◌<◌}
use native.Mathlib.Omega.{arith}
use borrow.Author.Tests.{eq-eqb, ne_eqb}
use lib.Dec.{T, eqb}
use lib.Ieee.{Float, binary64, fits, of_bits}
use Rattle.numeric.specs.Double.{zero_f}
use Rattle.numeric.specs.Iterate.{iterate}
use Rattle.numeric.specs.Sum2.{nothing_added, accumulate, total, sum2_iterate}
use Rattle.numeric.specs.Zeros.{IsZero}
use Rattle.numeric.proofs.Members.{sum_members}
use Rattle.heating.specs.Heat.{offers_to, input_of}

module _ (layer : ℕ) (offer : Float) (f : T (fits binary64 offer)) where
  other_zero : (k : ℕ) → (k < layer) ⊎ (layer + 1 ≤ k) → IsZero (offers_to layer offer k)
  unfolding offers_to of_bits
  other_zero k o = rw (ne_eqb k layer (apart o)) (false, refl)
    where
      apart : (k < layer) ⊎ (layer + 1 ≤ k) → k ≡ layer → ⊥
      apart (inl l) e = omega arith
      apart (inr l) e = omega arith

  offers_fit : (k : ℕ) → T (fits binary64 (offers_to layer offer k))
  unfolding offers_to
  offers_fit k = go (eqb k layer)
    where
      go : (b : Bool) → T (fits binary64 (cond b offer zero_f))
      go true = f
      go false = unfold fits of_bits in tt

  own : offers_to layer offer layer ≡ offer
  unfolding offers_to
  own = rw (eq-eqb layer layer refl)

  -- the law
  pub input_own : (n : ℕ) → layer < n → input_of n (offers_to layer offer) ≡ total (accumulate nothing_added offer)
  unfolding iterate
  input_own n l =
      let g = offers_to layer offer in
      let one : layer + 1 - layer ≡ 1 = omega arith in
      sum2_iterate g n
      ∙ ap total (sum_members g g layer (layer + 1) n (omega arith) (omega arith) (λ j m o. other_zero j o) (λ j m u. (refl, offers_fit j)))
      ∙ rw (one, own)
