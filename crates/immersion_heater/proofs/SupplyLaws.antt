-- Proves what demand 3 says of a supply (01, Supply and switch-off; Turn), for any offer and any cap: it is never more than the cap, and a zero where the
-- input is not above zero, as it is where nothing is offered. A heater's cap is rated power × step length, and it offers nothing where it runs off.
use Rattle.std.specs.Prelude.{◌≡◌, refl, Bool, true, not, cond, ◌&&◌, ℕ, zero, suc, ◌+◌, T, eqb, Float}
use Rattle.std.proofs.Math.Bool.{false}
use Rattle.std.specs.Float.Ieee.{is_nan, lt, le, eq, of_bits, add, sub, neg}
use Rattle.std.specs.Float.Ieee.Scale.{finite}
use Rattle.numeric.specs.Double.{◌⊕◌, ◌⊖◌, ◌⊛◌, zero_f}
use Rattle.numeric.specs.Compare.{min_of2, max_of2}
use Rattle.numeric.specs.Close.{wide_close}
use Rattle.numeric.specs.Zeros.{signed_zero, IsZero}
use Rattle.numeric.specs.Tabulate.{tabulate}
use Rattle.numeric.specs.Sum2.{nothing_added, accumulate, accumulate_all, sum2}
use Rattle.numeric.specs.Products.{min_le_second, product_number, product_zero}
use Rattle.heating.specs.Heat.{offers_to, input_of}
use Rattle.thermal_losses.specs.Losses.{adjusted}
use Rattle.immersion_heater.specs.Offer.{offer}
use Rattle.immersion_heater.specs.Supply.{demand, supply}

-- ---- any offer, any cap

-- never more than the cap, if that is a number
pub supply_at_most_cap : (figure cap : Float) → T (not (is_nan cap)) → T (le (supply figure cap) cap)
unfolding supply
supply_at_most_cap figure cap n = min_le_second (demand figure) cap n

-- a cap that is above zero, or a zero of either sign
abbrev pub NotBelowZero : Float → Type 0
NotBelowZero cap = T (not (lt zero_f cap)) → T (eq cap zero_f)

adjusted_none : (input over : Float) → T (not (lt zero_f input)) → adjusted input over ≡ zero_f
unfolding adjusted
adjusted_none input over n = go (lt zero_f input) (max_of2 zero_f (min_of2 (input ⊖ over) input)) n
  where
    go : (b : Bool) (x : Float) → T (not b) → cond b x zero_f ≡ zero_f
    go true x n = absurd n
    go false x n = refl

same_cond : {A : Type 0} (b : Bool) (x : A) → cond b x x ≡ x
same_cond true x = refl
same_cond false x = refl

-- a zero of either sign where the input is not above zero, whatever the surplus
pub supply_no_input : (input over cap : Float) → T (not (lt zero_f input)) → NotBelowZero cap → T (eq (supply (adjusted input over) cap) zero_f)
unfolding supply demand min_of2
supply_no_input input over cap n z =
    rw (adjusted_none input over n, same_cond (wide_close zero_f zero_f) zero_f) (go (lt zero_f cap) z)
  where
    go : (b : Bool) → (T (not b) → T (eq cap zero_f)) → T (eq (cond b zero_f cap) zero_f)
    go true h = unfold eq of_bits in tt
    go false h = h tt

zero_added : (s : Bool) → accumulate nothing_added (signed_zero s) ≡ nothing_added
unfolding accumulate add sub neg of_bits
zero_added true = refl
zero_added false = refl

add_zeros : (offers : ℕ → Float) → ((k : ℕ) → IsZero (offers k)) → (n i : ℕ)
    → accumulate_all (tabulate offers n i) nothing_added ≡ nothing_added
unfolding tabulate accumulate_all
add_zeros offers h zero i = refl
add_zeros offers h (suc n) i = rw ((h i).1, zero_added (h i).0) (add_zeros offers h n (i + 1))

-- the input where each layer is offered a zero
no_input : (offers : ℕ → Float) → ((k : ℕ) → IsZero (offers k)) → (n : ℕ) → T (not (lt zero_f (input_of n offers)))
unfolding sum2
no_input offers h n = rw (add_zeros offers h n 0) (unfold add lt of_bits in tt)

-- a zero of either sign where each layer is offered one
pub supply_no_offer : (offers : ℕ → Float) → ((k : ℕ) → IsZero (offers k)) → (layers : ℕ) (over cap : Float) → NotBelowZero cap
    → T (eq (supply (adjusted (input_of layers offers) over) cap) zero_f)
supply_no_offer offers h layers over cap z = supply_no_input (input_of layers offers) over cap (no_input offers h layers) z

-- ---- a heater's own offer and cap

offer_off : (layer : ℕ) (energy : Float) (k : ℕ) → IsZero (offers_to layer (offer false energy) k)
unfolding offers_to offer add of_bits
offer_off layer energy k = go (eqb k layer)
  where
    go : (b : Bool) → IsZero (cond b (zero_f ⊕ zero_f) zero_f)
    go true = (false, refl)
    go false = (false, refl)

-- what the checks say of a rated power and of a step length
module _ (rated timestep : Float) (p : T (finite rated && not (lt rated zero_f))) (q : T (finite timestep && lt zero_f timestep)) where
  -- never more than rated power × step length
  pub supply_at_most : (figure : Float) → T (le (supply figure (rated ⊛ timestep)) (rated ⊛ timestep))
  supply_at_most figure = supply_at_most_cap figure (rated ⊛ timestep) (product_number rated timestep p q)

  -- a zero of either sign where the heater runs off
  pub supply_off : (layers layer : ℕ) (energy over : Float)
      → T (eq (supply (adjusted (input_of layers (offers_to layer (offer false energy))) over) (rated ⊛ timestep)) zero_f)
  supply_off layers layer energy over =
      supply_no_offer (offers_to layer (offer false energy)) (offer_off layer energy) layers over (rated ⊛ timestep) (product_zero rated timestep p q)
