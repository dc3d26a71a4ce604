-- Proves what make stores of its heaters (01, Tank): what is copied, and the zeros behind it, is what stands at each place; and the slice of the first of them
-- is stored as they are.
use Rattle.std.proofs.Common.{◌≡◌, refl, ap, ℕ, zero, suc, ◌+◌, ◌-◌, ◌≤◌, ◌<◌, arith, Bool, true, false, List, ◌∷◌, ◌++◌, get_or, length, take, drop, replicate}
use Rattle.std.specs.Prelude.{cond, ltb, not}
use Rattle.std.proofs.lemmas.List.{drop_more, get_or-take, length-take-le}
use Rattle.std.proofs.Math.Nat.{sub-zero}
use Rattle.std.proofs.Math.Seq.{take-length}
use lib.Dec.{T, ltb→lt, nltb→le}
use borrow.Author.Tests.{lt-ltb, le-ltb}
use Rattle.numeric.specs.Tabulate.{tabulate, tabulate_same}
use Rattle.working_order.specs.Order.{max_heaters}
use Rattle.tank_model.specs.declared.Heater.{Heater}
use Rattle.tank_model.specs.Fixed.{no_heater, zero_heater}
use Rattle.storage_tank.specs.Calls.{fitted_heaters}

-- the places from i on, k of them
module _ {A : Type 0} (d z : A) (n : ℕ) (xs : List A) (many : n ≤ length xs) where
  abbrev Placed : ℕ → ℕ → Type 0
  Placed k i = take (n - i) (drop i xs) ++ drop (n - i) (replicate k z) ≡ tabulate (λ (h : ℕ). cond (ltb h n) (get_or xs h d) z) k i

  below : (k i : ℕ) → i < n → Placed k (i + 1) → Placed (suc k) i
  unfolding tabulate
  below k i l rest =
      let e : n - i ≡ suc (n - (i + 1)) = omega arith in
      let m : i < length xs = omega arith in
      rw (lt-ltb i n l, e, drop_more xs i d m) (ap (λ (ys : List A). get_or xs i d ∷ ys) rest)

  past : (k i : ℕ) → n ≤ i → Placed k (i + 1) → Placed (suc k) i
  unfolding tabulate
  past k i l rest =
      let e : n - i ≡ 0 = omega arith in
      let e' : n - (i + 1) ≡ 0 = omega arith in
      rw (le-ltb i n l, e) (ap (λ (ys : List A). z ∷ ys) (rw e' at rest))

  placed : (k i : ℕ) → n ≤ i + k → Placed k i
  unfolding tabulate
  placed zero i l = let e : n - i ≡ 0 = omega arith in rw e
  placed (suc k) i l = go (ltb i n) (ltb→lt i n) (nltb→le i n) (placed k (i + 1) (omega arith))
    where
      go : (b : Bool) → (T b → i < n) → (T (not b) → n ≤ i) → Placed k (i + 1) → Placed (suc k) i
      go true f g rest = below k i (f tt) rest
      go false f g rest = past k i (g tt) rest

-- what is copied over zeros
pub copied : (xs : List Heater) → length xs ≤ max_heaters → xs ++ drop (length xs) (replicate max_heaters zero_heater) ≡ fitted_heaters (length xs) xs
unfolding fitted_heaters
copied xs few = rw (sub-zero, take-length xs) at (placed no_heater zero_heater (length xs) xs (omega arith) max_heaters 0 (omega arith))

stored : (n : ℕ) (fitted : List Heater) (h : ℕ) (b : Bool) → (T b → h < n) → cond b (get_or (take n fitted) h no_heater) zero_heater ≡ cond b (get_or fitted h no_heater) zero_heater
stored n fitted h true l = get_or-take n fitted h no_heater (l tt)
stored n fitted h false l = refl

-- what stands past the first n does not bear on it
pub taken_fitted : (n : ℕ) (fitted : List Heater) → n ≤ length fitted → fitted_heaters (length (take n fitted)) (take n fitted) ≡ fitted_heaters n fitted
unfolding fitted_heaters
taken_fitted n fitted few =
    rw (length-take-le n fitted few)
    (tabulate_same (λ (h : ℕ). cond (ltb h n) (get_or (take n fitted) h no_heater) zero_heater) (λ (h : ℕ). cond (ltb h n) (get_or fitted h no_heater) zero_heater) max_heaters 0
    (λ h l u. stored n fitted h (ltb h n) (ltb→lt h n)))
