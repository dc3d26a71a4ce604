-- Proves that what the code keeps of a round still follows it after a pair that joins (01, Mix), whatever way the group's heat at its new temperature was
-- worked.
use mathlib.Core.Path.{◌≡◌, refl, sym, ap, ◌∙◌, subst}
use mathlib.Core.Bool.{true}
use mathlib.Core.List.{List}
use Prim.Native.Nat.{ℕ, ◌+◌, ◌-◌, ◌≤◌, ◌<◌}
use native.Mathlib.Omega.{arith}
use lib.Dec.{T}
use lib.ListN.{get_or}
use lib.Ieee.{Float, nan, binary64}
use lib.Ieee.Fits.{div-fits}
use lib.Ieee.Scale.{finite}
use Rattle.numeric.specs.Double.{◌⊕◌, ◌⊛◌, ◌⊘◌, one_f}
use Rattle.numeric.specs.Sum2.{accumulate, total}
use Rattle.numeric.specs.declared.sum2.Accumulator.{Accumulator}
use Rattle.numeric.proofs.Finite.{sum_parts_finite}
use Rattle.numeric.proofs.Members.{members_finite}
use Rattle.mixing.specs.Round.{joins, group_temp, fill, pair}
use Rattle.group_sums.specs.Sums.{heat_sum}
use Rattle.layer_joining.specs.Running.{EachHas, SaysJoins, joined_group, AsDefined, Follows}
use Rattle.std.specs.Prelude.{Option, IfSome}
use Rattle.layer_joining.specs.declared.RunningGroup.{RunningGroup}
use Rattle.layer_joining.proofs.Fill.{fill_inside, fill_over}
use Rattle.layer_joining.proofs.Written.{written, written_lower, written_upper, written_finite, lower_finite, upper_finite, walk_more, passed_more}
use Rattle.layer_joining.proofs.Members.{layer_there, join_members, volume_more}

-- a quotient of two totals, from what the code worked
pub quotient_of : (s t : Float) (heat sum volume : Accumulator) → s ≡ total heat → t ≡ total volume → heat ≡ sum → s ⊘ t ≡ total sum ⊘ total volume
quotient_of s t heat sum volume p q h = rw (p, q, h) refl

-- what a term adds to s; and a finite `met` with that sum in it answers for what was met before, and for the term
pub term_sum : (a q : Accumulator) (own : Float) → q ≡ accumulate a own → q.s ≡ a.s ⊕ own
unfolding accumulate
term_sum a q own e = ap (λ (h : Accumulator). h.s) e

pub met_parts : (met s a own : Float) → s ≡ a ⊕ own → T (finite (met ⊕ s)) → T (finite met) × T (finite own)
met_parts met s a own e h =
    let parts = sum_parts_finite met s h in
    (parts.0, (sum_parts_finite a own (rw (← e) parts.1)).1)

-- the layer i + 1, of volume v and temperature `next`, joins the group; `volume` and `temp` are the group's with it
module _ (n : ℕ) (vol first : List Float) (i : ℕ) (temps : List Float) (r : RunningGroup) (low : r.bottom ≤ i) (b : i + 1 < n)
    (v next : Float) (at : v ≡ get_or vol (i + 1) nan) (above : next ≡ get_or temps (i + 1) nan)
    (volume : Accumulator) (volume_is : volume ≡ accumulate r.volume (v ⊛ one_f))
    (temp : Float) where
  two : i + 1 + 1 ≡ i + 2
  two = omega arith

  abbrev TempIs : Type 0
  TempIs = temp ≡ total (accumulate r.heat (v ⊛ next)) ⊘ total volume

  new_temp : TempIs → (d : AsDefined n vol first i temps r) → group_temp n vol (written i temps r) r.bottom (i + 2) ≡ temp
  new_temp temp_is d =
      join_members n vol (written i temps r) (written_finite n vol first i temps r low (omega arith) d) r.bottom i r.temp low b
      (λ k l u. fill_inside r.bottom (i + 1) r.temp temps k l u (layer_there n vol temps d.layers_finite k (omega arith)))
      ∙ rw (written_upper n vol first i temps r low (omega arith) d, temp_is, volume_is, at, above, d.heat, d.volume) refl

  joined_walk : TempIs → (d : AsDefined n vol first i temps r) → joins r.temp next ≡ true → pair n vol i (record { temps = written i temps r; bottom = r.bottom }) ≡ record { temps = fill r.bottom (i + 2) temp temps; bottom = r.bottom }
  unfolding pair
  joined_walk temp_is d j =
      rw (written_lower n vol first i temps r low (omega arith) d, written_upper n vol first i temps r low (omega arith) d, ← above, j, new_temp temp_is d)
      (ap (λ (z : List Float). record { temps = z; bottom = r.bottom }) (fill_over r.bottom (i + 1) (i + 2) r.temp temp temps (omega arith) (omega arith)))

  joined_as_defined : TempIs → (heat : Accumulator) (each : Option Float) (met : Float) (d : AsDefined n vol first i temps r) → joins r.temp next ≡ true → T (finite heat.s) → heat ≡ heat_sum vol temp r.bottom (i + 2) → IfSome each (λ x. EachHas vol r.bottom (i + 2) x) → AsDefined n vol first (i + 1) temps (joined_group r temp heat volume each met)
  joined_as_defined temp_is heat each met d j f h e = record {
    walk = walk_more n vol first i temps r low (omega arith) d ∙ rw two (joined_walk temp_is d j);
    temp_fits = rw temp_is (div-fits binary64 (total (accumulate r.heat (v ⊛ next))) (total volume));
    layers_finite = d.layers_finite;
    group_finite = λ k l u. members_finite (λ (k : ℕ). get_or vol k nan ⊛ temp) (i + 2 - r.bottom) r.bottom (subst (λ (a : Accumulator). T (finite a.s)) h f) k (l, omega arith);
    heat = rw two h;
    volume = rw (two, volume_is, d.volume, at) (sym (volume_more vol r.bottom i (omega arith)));
    each = rw two e;
    one_layer = λ q. absurd (omega arith);
    below = d.below;
    order = d.order;
  }

  -- the law: a finite `met` answers for what was met, for the layer's own, and for the temperature
  pub follows_join : (heat : Accumulator) (each : Option Float) (met : Float) → (T (finite met) → T (finite r.met) × T (finite (v ⊛ next))) → (T (finite met) → TempIs) → SaysJoins r.temp next true → (AsDefined n vol first i temps r → T (finite met) → T (finite heat.s) → heat ≡ heat_sum vol temp r.bottom (i + 2)) → (AsDefined n vol first i temps r → IfSome each (λ x. EachHas vol r.bottom (i + 2) x)) → Follows n vol first i temps r → Follows n vol first (i + 1) temps (joined_group r temp heat volume each met)
  follows_join heat each met answers temp_is j h e f = record {
    ahead = λ k l. f.ahead k (omega arith);
    passed = λ m.
        let parts = answers (sum_parts_finite met heat.s m).0 in
        rw two (passed_more i vol first (f.passed parts.0) (rw (← f.ahead (i + 1) (omega arith), ← at, ← above) parts.1));
    as_defined = λ m fine.
        let parts = sum_parts_finite met heat.s m in
        let d = f.as_defined (answers parts.0).0 fine in
        let upper : T (finite next) = rw above (upper_finite n vol first i temps r low (omega arith) d b) in
        joined_as_defined (temp_is parts.0) heat each met d (j (lower_finite n vol first i temps r low (omega arith) d) upper) parts.1 (h d parts.0 parts.1) (e d);
  }
