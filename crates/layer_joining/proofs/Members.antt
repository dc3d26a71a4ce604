-- Proves that a group's temperature is worked from its own layers alone (01, Mix: 'each sum over all layers with terms outside the group times 0'), where
-- volume × temperature is finite in every layer; and from what is kept of the group when a layer joins it.
use mathlib.Core.Path.{◌≡◌, refl, ap, ◌∙◌, subst}
use mathlib.Core.Logic.{◌⊎◌, ⊎_elim, inl}
use mathlib.Core.Bool.{Bool, true, false, not, cond, ◌&&◌}
use mathlib.Core.List.{List}
use Prim.Native.Nat.{ℕ, ◌+◌, ◌-◌, ◌≤◌, ◌<◌}
use native.Mathlib.Omega.{arith}
use borrow.Author.Tests.{lt-ltb, le-ltb, le-leb, lt-leb}
use lib.Dec.{T, leb, ltb, nltb→le, ltb→lt}
use lib.ListN.{length, get_or, get_or-eq_default}
use lib.Ieee.{Float, nan, binary64}
use lib.Ieee.Fits.{mul-fits}
use lib.Ieee.Scale.{finite}
use Rattle.numeric.specs.Double.{◌⊛◌, ◌⊘◌, zero_f, one_f}
use Rattle.numeric.specs.Zeros.{IsZero}
use Rattle.numeric.specs.Iterate.{iterate, iterate_more}
use Rattle.numeric.specs.Sum2.{nothing_added, accumulate, total, add_at, sum2_iterate}
use Rattle.numeric.proofs.Finite.{product_parts_finite}
use Rattle.numeric.proofs.Members.{finite_times_zero, fits_times_one, same_members, sum_members}
use Rattle.mixing.specs.Round.{member, heat_term, volume_term, group_temp}
use Rattle.group_sums.specs.Sums.{volume_sum, heat_sum}
use Rattle.layer_joining.specs.Running.{HeatFinite}

-- ---- who is in the group
member_inside : (bottom end k : ℕ) → bottom ≤ k → k < end → member bottom end k ≡ one_f
unfolding member
member_inside bottom end k a b = rw (le-leb bottom k a, lt-ltb k end b)

neither : (a : Bool) (x y : Float) → cond (a && false) x y ≡ y
neither true x y = refl
neither false x y = refl

member_outside : (bottom end k : ℕ) → (k < bottom) ⊎ (end ≤ k) → member bottom end k ≡ zero_f
unfolding member
member_outside bottom end k h = ⊎_elim (λ u. rw (lt-leb bottom k u)) (λ u. rw (le-ltb k end u) (neither (leb bottom k) one_f zero_f)) h

outside_zero : (bottom end k : ℕ) (x : Float) → T (finite x) → (k < bottom) ⊎ (end ≤ k) → IsZero (x ⊛ member bottom end k)
outside_zero bottom end k x f h = rw (member_outside bottom end k h) (finite_times_zero x f)

-- ---- one layer more, at the end of a sum
sum_more : (g : ℕ → Float) (bottom i : ℕ) → bottom ≤ i + 1 → iterate (add_at g) (i + 2 - bottom) bottom nothing_added ≡ accumulate (iterate (add_at g) (i + 1 - bottom) bottom nothing_added) (g (i + 1))
sum_more g bottom i h =
    let e : i + 2 - bottom ≡ i + 1 - bottom + 1 = omega arith in
    let f : bottom + (i + 1 - bottom) ≡ i + 1 = omega arith in
    rw e (iterate_more (add_at g) (i + 1 - bottom) bottom nothing_added ∙ rw f refl)

pub heat_more : (vol : List Float) (x : Float) (bottom i : ℕ) → bottom ≤ i + 1 → heat_sum vol x bottom (i + 2) ≡ accumulate (heat_sum vol x bottom (i + 1)) (get_or vol (i + 1) nan ⊛ x)
heat_more vol x bottom i h = sum_more (λ (k : ℕ). get_or vol k nan ⊛ x) bottom i h

pub volume_more : (vol : List Float) (bottom i : ℕ) → bottom ≤ i + 1 → volume_sum vol bottom (i + 2) ≡ accumulate (volume_sum vol bottom (i + 1)) (get_or vol (i + 1) nan ⊛ one_f)
volume_more vol bottom i h = sum_more (λ (k : ℕ). get_or vol k nan ⊛ one_f) bottom i h

-- ---- the group's layers alone
module _ (n : ℕ) (vol temps : List Float) (fine : HeatFinite n vol temps) where
  volume_finite : (k : ℕ) → k < n → T (finite (get_or vol k nan))
  volume_finite k h = (product_parts_finite (get_or vol k nan) (get_or temps k nan) (fine k h)).0

  -- a layer whose product is finite is there: past the end of a list stands not-a-number
  pub layer_there : (k : ℕ) → k < n → k < length temps
  layer_there k h = go (ltb k (length temps)) (ltb→lt k (length temps)) (nltb→le k (length temps))
    where
      go : (b : Bool) → (T b → k < length temps) → (T (not b) → length temps ≤ k) → k < length temps
      go true l u = l tt
      go false l u = absurd (product_parts_finite (get_or vol k nan) nan (subst (λ (x : Float). T (finite (get_or vol k nan ⊛ x))) (get_or-eq_default temps nan (u tt)) (fine k h))).1

  module _ (bottom end : ℕ) (l : bottom ≤ end) (u : end ≤ n) where
    heat_members : iterate (add_at (heat_term vol temps bottom end)) n 0 nothing_added ≡ iterate (add_at (λ (k : ℕ). get_or vol k nan ⊛ get_or temps k nan)) (end - bottom) bottom nothing_added
    heat_members =
        sum_members (heat_term vol temps bottom end) (λ (k : ℕ). get_or vol k nan ⊛ get_or temps k nan) bottom end n l u
        (λ j h o. outside_zero bottom end j (get_or vol j nan ⊛ get_or temps j nan) (fine j h) o)
        (λ j a b. let f = mul-fits binary64 (get_or vol j nan) (get_or temps j nan) in (rw (member_inside bottom end j a b) (fits_times_one (get_or vol j nan ⊛ get_or temps j nan) f), f))

    volume_members : iterate (add_at (volume_term vol bottom end)) n 0 nothing_added ≡ volume_sum vol bottom end
    volume_members =
        sum_members (volume_term vol bottom end) (λ (k : ℕ). get_or vol k nan ⊛ one_f) bottom end n l u
        (λ j h o. outside_zero bottom end j (get_or vol j nan) (volume_finite j h) o)
        (λ j a b. (rw (member_inside bottom end j a b), mul-fits binary64 (get_or vol j nan) one_f))

    members : group_temp n vol temps bottom end ≡ total (iterate (add_at (λ (k : ℕ). get_or vol k nan ⊛ get_or temps k nan)) (end - bottom) bottom nothing_added) ⊘ total (volume_sum vol bottom end)
    unfolding group_temp
    members = rw (sum2_iterate (heat_term vol temps bottom end) n, sum2_iterate (volume_term vol bottom end) n, heat_members, volume_members)

  -- the law: the layers from bottom to i have the temperature x, and the layer i + 1 joins them
  pub join_members : (bottom i : ℕ) (x : Float) → bottom ≤ i → i + 1 < n → ((k : ℕ) → bottom ≤ k → k < i + 1 → get_or temps k nan ≡ x) → group_temp n vol temps bottom (i + 2) ≡ total (accumulate (heat_sum vol x bottom (i + 1)) (get_or vol (i + 1) nan ⊛ get_or temps (i + 1) nan)) ⊘ total (accumulate (volume_sum vol bottom (i + 1)) (get_or vol (i + 1) nan ⊛ one_f))
  join_members bottom i x a b same =
      let own : iterate (add_at (λ (k : ℕ). get_or vol k nan ⊛ get_or temps k nan)) (i + 1 - bottom) bottom nothing_added ≡ heat_sum vol x bottom (i + 1) =
      same_members (λ (k : ℕ). get_or vol k nan ⊛ get_or temps k nan) (λ (k : ℕ). get_or vol k nan ⊛ x) (i + 1 - bottom) bottom
      (λ j w. (inl (ap (λ (z : Float). get_or vol j nan ⊛ z) (same j w.0 (omega arith))), mul-fits binary64 (get_or vol j nan) x)) in
      members bottom (i + 2) (omega arith) (omega arith)
      ∙ rw (sum_more (λ (k : ℕ). get_or vol k nan ⊛ get_or temps k nan) bottom i (omega arith), volume_more vol bottom i (omega arith), own) refl
