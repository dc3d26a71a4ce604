-- Proves that what the code keeps of a round follows it from the lowest layer on, still follows it after a pair that ends the group, and gives the round and
-- whether its layers are in order when the last group has ended (01, Mix).
use mathlib.Core.Path.{◌≡◌, refl, sym, ap, ◌∙◌}
use mathlib.Core.Logic.{⊎_elim, inl, inr}
use mathlib.Core.Bool.{Bool, true, false, cond}
use mathlib.Core.List.{List}
use Prim.Native.Nat.{ℕ, ◌+◌, ◌-◌, ◌≤◌, ◌<◌}
use native.Mathlib.Nat.{eq-or-lt_of_le}
use native.Mathlib.Numerals.{add-one}
use native.Mathlib.Omega.{arith}
use lib.Dec.{T}
use lib.ListN.{get_or}
use lib.Ieee.{Float, nan}
use lib.Ieee.Scale.{finite}
use Rattle.std.specs.Prelude.{Option, Some, None}
use Rattle.numeric.specs.Double.{◌⊛◌, zero_f, one_f}
use Rattle.numeric.specs.Zeros.{SameValue}
use Rattle.numeric.specs.Iterate.{iterate}
use Rattle.numeric.specs.Holds.{holds}
use Rattle.numeric.specs.Sum2.{nothing_added, accumulate, add_at}
use Rattle.numeric.proofs.Finite.{sum_parts_finite}
use Rattle.mixing.specs.Round.{Walk, joins, pair, one_round}
use Rattle.mixing.specs.Rearrange.{rises, is_sorted}
use Rattle.layer_joining.specs.Running.{HeatFinite, SaysJoins, layer_below, not_above, AsDefined, Follows}
use Rattle.running_group.specs.Rounds.{Started, Ended, RoundWorked}
use Rattle.layer_joining.specs.declared.RunningGroup.{RunningGroup}
use Rattle.layer_joining.proofs.Fill.{fill_outside, fill_own}
use Rattle.layer_joining.proofs.Members.{layer_there}
use Rattle.running_group.proofs.InOrder.{group_order}
use Rattle.layer_joining.proofs.Written.{written, written_lower, written_upper, written_finite, lower_finite, upper_finite, walk_more, passed_more}

-- ---- a group of one layer
one_sum : (g : ℕ → Float) (i : ℕ) → iterate (add_at g) (i + 1 - i) i nothing_added ≡ accumulate nothing_added (g i)
unfolding iterate
one_sum g i = let e : i + 1 - i ≡ 1 = omega arith in rw e refl

-- the one layer between i and i
only : (i k : ℕ) (P : ℕ → Type 0) → i ≤ k → k < i + 1 → P i → P k
only i k P l u p = let e : i ≡ k = omega arith in rw (← e) p

-- what is known of the group of the layer i, in the array w
module _ (n : ℕ) (vol first : List Float) (i : ℕ) (w : List Float) (below : Option Float) (sorted : Bool) (met : Float) (q : RunningGroup) (h : i < n) (s : Started i (get_or w i nan) (get_or vol i nan) below sorted met q) where
  one_as_defined : iterate (pair n vol) i 0 (record { temps = first; bottom = 0 }) ≡ record { temps = w; bottom = i } → HeatFinite n vol w → below ≡ layer_below w i → sorted ≡ holds (rises w) (i - 1) 0 → AsDefined n vol first i w q
  one_as_defined walk fine b o = record {
    walk = rw (s.bottom_is, s.temp_is) (walk ∙ ap (λ (z : List Float). record { temps = z; bottom = i }) (sym (fill_own i w)));
    temp_fits = rw s.temp_is s.temp_fits;
    layers_finite = fine;
    group_finite = λ k l u. rw s.temp_is (only i k (λ (k : ℕ). T (finite (get_or vol k nan ⊛ get_or w i nan))) (rw (← s.bottom_is) l) u (fine i h));
    heat = rw (s.bottom_is, s.temp_is) (s.heat_is (fine i h) ∙ sym (one_sum (λ (k : ℕ). get_or vol k nan ⊛ get_or w i nan) i));
    volume = rw s.bottom_is (s.volume_is (fine i h) ∙ sym (one_sum (λ (k : ℕ). get_or vol k nan ⊛ one_f) i));
    each = rw s.each_is (record { volume_fits = s.volume_fits; has = λ k l u. only i k (λ (k : ℕ). SameValue (get_or vol k nan) (get_or vol i nan)) (rw (← s.bottom_is) l) u (inl refl) });
    one_layer = λ e. s.temp_is;
    below = rw (s.below_is, s.bottom_is) b;
    order = rw (s.sorted_is, s.bottom_is) o;
  }

-- ---- the lowest layer
pub follows_start : (n : ℕ) (vol first : List Float) (q : RunningGroup) → 0 < n → Started 0 (get_or first 0 nan) (get_or vol 0 nan) None true zero_f q → Follows n vol first 0 first q
unfolding iterate holds
follows_start n vol first q h s = record {
  ahead = λ j l. refl;
  passed = λ m k l.
      only 0 k (λ (k : ℕ). T (finite (get_or vol k nan ⊛ get_or first k nan))) (omega arith) (omega arith)
      (sum_parts_finite zero_f (get_or vol 0 nan ⊛ get_or first 0 nan) (rw (← s.met_is) m)).1;
  as_defined = λ m fine. one_as_defined n vol first 0 first None true zero_f q h s refl fine refl refl;
}

-- ---- a pair that ends the group
module _ (n : ℕ) (vol first : List Float) (i : ℕ) (temps : List Float) (r : RunningGroup) (low : r.bottom ≤ i) (h : i < n) (w : List Float) (ended : Ended r.bottom (i + 1) r.temp temps w) where
  -- above the group nothing is written
  above : (j : ℕ) → i < j → get_or w j nan ≡ get_or temps j nan
  above j l =
      ⊎_elim (λ e. ap (λ (z : List Float). get_or z j nan) (ended.one_layer (omega arith)))
      (λ u. ap (λ (z : List Float). get_or z j nan) (ended.more_layers (omega arith)) ∙ fill_outside r.bottom (i + 1) r.temp temps j (omega arith) (inr (omega arith))) (eq-or-lt_of_le low)

  is_written : AsDefined n vol first i temps r → w ≡ written i temps r
  is_written d =
      ⊎_elim (λ e. ended.one_layer (omega arith) ∙ rw (d.one_layer e, e) (sym (fill_own i temps)))
      (λ u. ended.more_layers (omega arith)) (eq-or-lt_of_le low)

  -- whether the layers are in order with the group's temperature written
  in_order : AsDefined n vol first i temps r → cond r.sorted (not_above r.below r.temp) false ≡ holds (rises w) (i + 1 - 1) 0
  in_order d =
      rw (is_written d, d.order, d.below)
      (sym (group_order (i + 1) r.temp temps (lower_finite n vol first i temps r low h d) (λ k l. layer_there n vol temps d.layers_finite k (omega arith)) r.bottom (omega arith)))

  parted_walk : AsDefined n vol first i temps r → joins r.temp (get_or temps (i + 1) nan) ≡ false → iterate (pair n vol) (i + 1) 0 (record { temps = first; bottom = 0 }) ≡ record { temps = w; bottom = i + 1 }
  unfolding pair
  parted_walk d j = walk_more n vol first i temps r low h d ∙ rw (written_lower n vol first i temps r low h d, written_upper n vol first i temps r low h d, j, is_written d) refl

  pub follows_part : (q : RunningGroup) → i + 1 < n → SaysJoins r.temp (get_or temps (i + 1) nan) false → Started (i + 1) (get_or temps (i + 1) nan) (get_or vol (i + 1) nan) (Some r.temp) (cond r.sorted (not_above r.below r.temp) false) r.met q → Follows n vol first i temps r → Follows n vol first (i + 1) w q
  follows_part q b j s f = record {
    ahead = λ k l. above k (omega arith) ∙ f.ahead k (omega arith);
    passed = λ m.
        let parts = sum_parts_finite r.met (get_or vol (i + 1) nan ⊛ get_or temps (i + 1) nan) (rw (← s.met_is) m) in
        let two : i + 1 + 1 ≡ i + 2 = omega arith in
        rw two (passed_more i vol first (f.passed parts.0) (rw (← f.ahead (i + 1) (omega arith)) parts.1));
    as_defined = λ m fine.
        let parts = sum_parts_finite r.met (get_or vol (i + 1) nan ⊛ get_or temps (i + 1) nan) (rw (← s.met_is) m) in
        let d = f.as_defined parts.0 fine in
        let t : Started (i + 1) (get_or w (i + 1) nan) (get_or vol (i + 1) nan) (Some r.temp) (cond r.sorted (not_above r.below r.temp) false) r.met q = rw (above (i + 1) (omega arith)) s in
        one_as_defined n vol first (i + 1) w (Some r.temp) (cond r.sorted (not_above r.below r.temp) false) r.met q b t
        (parted_walk d (j (lower_finite n vol first i temps r low h d) (upper_finite n vol first i temps r low h d b)))
        (rw (is_written d) (written_finite n vol first i temps r low h d))
        (rw (add-one, is_written d) (ap (λ (x : Float). Some x) (sym (written_lower n vol first i temps r low h d))))
        (in_order d);
  }

  last_part : i + 1 ≡ n → T (finite r.met) → Follows n vol first i temps r → RoundWorked n vol first w (cond r.sorted (not_above r.below r.temp) false)
  unfolding one_round is_sorted
  last_part e m f =
      let d = f.as_defined m (rw (← e) (f.passed m)) in
      let last : n - 1 ≡ i = omega arith in
      record { leaves = is_written d ∙ sym (ap (λ (k : ℕ). (iterate (pair n vol) k 0 (record { temps = first; bottom = 0 })).temps) last ∙ ap (λ (z : Walk). z.temps) d.walk); tells = in_order d ∙ rw e refl }

-- ---- the last group has ended
pub follows_end : (n : ℕ) (vol first : List Float) (i : ℕ) (temps : List Float) (r : RunningGroup) (w : List Float) → r.bottom ≤ i → i + 1 ≡ n → Ended r.bottom n r.temp temps w → T (finite r.met) → Follows n vol first i temps r → RoundWorked n vol first w (cond r.sorted (not_above r.below r.temp) false)
follows_end n vol first i temps r w low e ended m f = last_part n vol first i temps r low (omega arith) w (rw e ended) e m f
