-- Proves when the heat of a running group, kept from the pair before, serves at its new temperature (01, Mix): where each layer's volume × temperature is what
-- it was. One product tells, where the volumes are equal; otherwise the temperature must be the same.
use mathlib.Core.Path.{◌≡◌, sym, ◌∙◌, subst}
use mathlib.Core.Logic.{⊎_elim, inl, inr}
use mathlib.Core.Bool.{true}
use mathlib.Core.List.{List}
use Prim.Native.Nat.{ℕ, ◌+◌, ◌-◌, ◌≤◌, ◌<◌}
use native.Mathlib.Nat.{eq-or-lt_of_le}
use native.Mathlib.Omega.{arith}
use lib.Dec.{T}
use lib.ListN.{get_or}
use lib.Ieee.{Float, nan, binary64, fits, eq}
use lib.Ieee.Fits.{mul-fits}
use lib.Ieee.Scale.{finite}
use denote.Floats.{is_true}
use Rattle.numeric.specs.Double.{◌⊛◌}
use Rattle.numeric.specs.Zeros.{SameValue}
use Rattle.numeric.specs.Sum2.{nothing_added, accumulate}
use Rattle.numeric.specs.declared.sum2.Accumulator.{Accumulator}
use Rattle.numeric.proofs.Finite.{product_parts_finite}
use Rattle.numeric.proofs.SameValue.{equal_same, same_back, same_through, same_finite, same_left, same_right, same_factor}
use Rattle.numeric.proofs.Members.{Stable, stable_start, stable_terms, same_term, same_members, term_finite, members_finite}
use Rattle.group_sums.specs.Sums.{heat_sum, EvenSum, OneMore}
use Rattle.layer_joining.specs.Running.{StaysEach, EachHas, AsDefined}
use Rattle.layer_joining.specs.declared.RunningGroup.{RunningGroup}
use Rattle.layer_joining.proofs.Members.{heat_more}

module _ (n : ℕ) (vol first : List Float) (i : ℕ) (temps : List Float) (r : RunningGroup) (low : r.bottom ≤ i) (b : i + 1 < n) (d : AsDefined n vol first i temps r) (v : Float) (at : v ≡ get_or vol (i + 1) nan) where
  -- a layer of the group, with the one that joins, is one that was in it or that one
  grown : (P : ℕ → Type 0) → ((k : ℕ) → r.bottom ≤ k → k < i + 1 → P k) → P (i + 1) → (k : ℕ) → r.bottom ≤ k → k < i + 2 → P k
  grown P h l k a u =
      let m : k ≤ i + 1 = omega arith in
      ⊎_elim (λ e. rw e l) (λ w. h k a w) (eq-or-lt_of_le m)

  -- the volume of the layer that joins is that of each in the group
  module _ (vf : T (fits binary64 v)) (each : Float) (e : StaysEach r.each v each) where
    had : EachHas vol r.bottom (i + 1) each
    had = rw e.is_each at d.each

    v_each : SameValue v each
    v_each = equal_same v each vf had.volume_fits e.even

    pub each_more : EachHas vol r.bottom (i + 2) each
    each_more = record { volume_fits = had.volume_fits; has = grown (λ (k : ℕ). SameValue (get_or vol k nan) each) had.has (rw (← at) v_each) }

    -- and so each has its
    as_v : (k : ℕ) → r.bottom ≤ k → k < i + 2 → SameValue (get_or vol k nan) v
    as_v k l u = same_through (get_or vol k nan) each v (each_more.has k l u) (same_back v each v_each)

  module _ (x : Float) (q : Accumulator) (own : Float) (known : OneMore r.heat (v ⊛ r.temp) own (accumulate r.heat own) q) (f : T (finite q.s)) where
    old_stable : Stable r.heat
    old_stable = rw d.heat (stable_terms (λ (k : ℕ). get_or vol k nan ⊛ r.temp) (i + 1 - r.bottom) r.bottom nothing_added stable_start (λ j w. mul-fits binary64 (get_or vol j nan) r.temp))

    gone_on : q ≡ accumulate r.heat (v ⊛ r.temp)
    gone_on = ⊎_elim (λ e. e) (λ e. e.is_known ∙ same_term r.heat own (v ⊛ r.temp) old_stable e.same_value) known

    product_finite : T (finite (v ⊛ r.temp))
    product_finite = (term_finite r.heat (v ⊛ r.temp) (subst (λ (a : Accumulator). T (finite a.s)) gone_on f)).1

    same_heat : ((k : ℕ) → r.bottom ≤ k → k < i + 2 → SameValue (get_or vol k nan ⊛ r.temp) (get_or vol k nan ⊛ x)) → q ≡ heat_sum vol x r.bottom (i + 2)
    same_heat same =
        gone_on
        ∙ rw (d.heat, at) (sym (heat_more vol r.temp r.bottom i (omega arith)))
        ∙ same_members (λ (k : ℕ). get_or vol k nan ⊛ r.temp) (λ (k : ℕ). get_or vol k nan ⊛ x) (i + 2 - r.bottom) r.bottom (λ j w. (same j w.0 (omega arith), mul-fits binary64 (get_or vol j nan) x))

    -- the volumes are equal, and so is the product
    pub even_heat : T (fits binary64 v) → (each : Float) → StaysEach r.each v each → eq (v ⊛ x) (v ⊛ r.temp) ≡ true → q ≡ heat_sum vol x r.bottom (i + 2)
    even_heat vf each ve e =
        let same = same_back (v ⊛ x) (v ⊛ r.temp) (equal_same (v ⊛ x) (v ⊛ r.temp) (mul-fits binary64 v x) (mul-fits binary64 v r.temp) e) in
        let xf = (product_parts_finite v x (same_finite (v ⊛ r.temp) (v ⊛ x) same product_finite)).1 in
        let tf = (product_parts_finite v r.temp product_finite).1 in
        same_heat (λ k l u. same_left (get_or vol k nan) v r.temp x tf xf (as_v vf each ve k l u) same)

    -- the temperature is the same
    pub level_heat : T (fits binary64 x) → eq x r.temp ≡ true → q ≡ heat_sum vol x r.bottom (i + 2)
    level_heat xf e =
        let same = same_back x r.temp (equal_same x r.temp xf d.temp_fits e) in
        same_heat
        (grown (λ (k : ℕ). SameValue (get_or vol k nan ⊛ r.temp) (get_or vol k nan ⊛ x))
        (λ k l u. same_right (get_or vol k nan) r.temp x (product_parts_finite (get_or vol k nan) r.temp (d.group_finite k l u)).0 same)
        (rw (← at) (same_right v r.temp x (product_parts_finite v r.temp product_finite).0 same)))

  -- the volumes are equal, and the heat is a sum of one product
  pub equal_heat : T (fits binary64 v) → (each : Float) → StaysEach r.each v each → (x : Float) (q : Accumulator) → EvenSum vol x (v ⊛ x) r.bottom (i + 2) q → T (finite q.s) → q ≡ heat_sum vol x r.bottom (i + 2)
  equal_heat vf each ve x q (inl e) f = e
  equal_heat vf each ve x q (inr e) f =
      let is = e (is_true (finite q.s) f) in
      let xf = (product_parts_finite v x (members_finite (λ (k : ℕ). v ⊛ x) (i + 2 - r.bottom) r.bottom (subst (λ (a : Accumulator). T (finite a.s)) is f) r.bottom (omega arith, omega arith))).1 in
      let same : (k : ℕ) → r.bottom ≤ k → k < i + 2 → SameValue v (get_or vol k nan) = λ k l u. same_back (get_or vol k nan) v (as_v vf each ve k l u) in
      is ∙ same_members (λ (k : ℕ). v ⊛ x) (λ (k : ℕ). get_or vol k nan ⊛ x) (i + 2 - r.bottom) r.bottom (λ j w. (same_factor v (get_or vol j nan) x xf (same j w.0 (omega arith)), mul-fits binary64 (get_or vol j nan) x))
