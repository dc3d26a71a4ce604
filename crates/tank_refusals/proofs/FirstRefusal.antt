-- Proves what the functions that go through the checks cite (01, The four calls): one check after the other, and what a step that passes says of
-- its counts.
use mathlib.Core.Path.{◌≡◌, refl, sym, ap, ◌∙◌}
use mathlib.Core.List.{List, [], ◌∷◌, ◌++◌}
use mathlib.Core.Bool.{Bool, true, false, ◌&&◌}
use Prim.Native.Nat.{ℕ, ◌+◌, ◌<◌, ◌≤◌}
use native.Mathlib.Omega.{arith}
use lib.Dec.{leb, eqb, leb→le, lit<}
use lib.ListN.{length, get_or, take}
use Rattle.std.proofs.lemmas.List.{get_or-take, get_or_default, length-take-le}
use Rattle.numeric.specs.Tabulate.{tabulate_same}
use lib.Ieee.{Float}
use lib.Ieee.Scale.{finite}
use Rattle.std.specs.Float.{nan}
use lib.Ieee.Fits.{and_l, and_r}
use Rattle.refusals.specs.declared.Refusal.{Refusal}
use Rattle.refusals.specs.Refusals.{number_of, number_in}
use Rattle.std.specs.Prelude.{Result, Ok, Err, OnOk}
use Rattle.refusals.proofs.Numbers.{number-not_0}
use Rattle.mixing.specs.Limits.{max_layers}
use Rattle.cylinder.specs.declared.Cylinder.{Cylinder}
use Rattle.cylinder.specs.Layers.{all_finite}
use Rattle.draw_events.specs.Lent.{max_events}
use Rattle.working_order.specs.Order.{max_heaters}
use Rattle.tank_model.specs.declared.Heater.{Heater}
use Rattle.tank_model.specs.declared.Step.{Step}
use Rattle.tank_model.specs.Fixed.{placed, no_heater, not_placed, placed_heaters, Fixed, State, fixed_by}
use Rattle.tank_model.specs.FirstRefusal.{first_refusal, first_among, decides, goes_on, last_decides, Searched, searched_turn, searched_stop, each_passes, first_list, second_list, both_pass}
use Rattle.tank_model.specs.Checks.{unless, not_negative, heaters_check, heater_check, places_check, counts_check, volume_check, volumes_check, tank_checks, step_checks, step_refusal}
use Rattle.tank_model.proofs.Order.{many_placed, placed_at}
use Rattle.tank_model.proofs.Passes.{unless_passes, tank_passes}

-- ---- one check after the other

-- it refuses, and decides
pub refused : (r : Refusal) (n : ℕ) (ns : List ℕ) → number_of r ≡ n → number_of r ≡ first_refusal (n ∷ ns)
refused r n ns e = decides (number_of r) n ns e (number-not_0 r)

-- it passes, and the rest decides
pub passed : (n k : ℕ) (ns : List ℕ) → 0 ≡ n → k ≡ first_refusal ns → k ≡ first_refusal (n ∷ ns)
passed n k ns e f = goes_on 0 n k ns e refl f

-- what holds where an answer is accepted
pub on_ok : (r : Result (Unit {0}) Refusal) (P : Type 0) → (number_in r ≡ 0 → P) → OnOk r P
on_ok (Ok x) P f = f refl
on_ok (Err e) P f = tt

-- it is the last
pub last : (n k : ℕ) → k ≡ n → k ≡ first_refusal (n ∷ [])
last n k e = last_decides k n e

pub ruleset one_by_one = (refused, passed, last)

-- ---- a check of each item of a list, one after the other

module _ {A : Type 0} (check : A → ℕ) (d : A) (xs : List A) where
  -- what the check of the item i answers
  abbrev pub number_at : ℕ → ℕ
  number_at i = check (get_or xs i d)

  -- of the item x, which stands at i, by whatever stands past the list
  item_number : (i : ℕ) (x : A) (k : ℕ) → i < length xs → x ≡ get_or xs i x → k ≡ check x → k ≡ number_at i
  item_number i x k l e h = h ∙ ap check (e ∙ get_or_default xs i x d l)

  -- the item i refuses, before which all pass
  pub item_refuses : (i : ℕ) (x : A) (r : Refusal) → i < length xs → x ≡ get_or xs i x → number_of r ≡ check x → Searched number_at (length xs) i
      → number_of r ≡ first_among number_at (length xs)
  item_refuses i x r l e h s = searched_stop number_at (length xs) i (number_of r) l (item_number i x (number_of r) l e h) (number-not_0 r) s

  pub item_passes : (i : ℕ) (x : A) → i < length xs → x ≡ get_or xs i x → 0 ≡ check x → Searched number_at (length xs) i → Searched number_at (length xs) (i + 1)
  item_passes i x l e h s = searched_turn number_at (length xs) i 0 l (item_number i x 0 l e h) refl s

  -- the first n items of a list
  pub first_taken : (n : ℕ) → n ≤ length xs → first_among (λ (i : ℕ). check (get_or (take n xs) i d)) (length (take n xs)) ≡ first_among number_at n
  first_taken n few =
      rw (length-take-le n xs few)
      (ap first_refusal (tabulate_same (λ (i : ℕ). check (get_or (take n xs) i d)) number_at n 0 (λ i h l. ap check (get_or-take n xs i d (omega arith)))))

-- ---- heaters in an array

-- the check of the heater given as h
abbrev pub check_at : List Heater → ℕ → ℕ
check_at fitted h = heater_check (placed (get_or fitted h no_heater))

pub places_are : (n : ℕ) (fitted : List Heater) → first_among (check_at fitted) n ≡ places_check (placed_heaters n fitted)
places_are n fitted =
    rw (many_placed n fitted)
    (ap first_refusal (tabulate_same (check_at fitted) (λ (h : ℕ). heater_check (get_or (placed_heaters n fitted) h not_placed)) n 0
    (λ h l u. ap heater_check (sym (placed_at n fitted h (omega arith))))))

-- the first n volumes of an array are all those of the slice that is cut from it
pub taken_volumes : (n : ℕ) (volumes : List Float) → n ≤ length volumes → volumes_check (length (take n volumes)) (take n volumes) ≡ volumes_check n volumes
taken_volumes n volumes few = first_taken volume_check nan volumes n few

pub few_heaters : (n k : ℕ) → k ≡ heaters_check n → k ≡ 0 → n ≤ max_heaters
few_heaters n k e z = leb→le n max_heaters (unless_passes (leb n max_heaters) 2 (lit< tt) (sym e ∙ z))

pub few_events : (n events entries k : ℕ) → k ≡ counts_check n events entries → k ≡ 0 → events ≤ max_events
few_events n events entries k e z = leb→le events max_events (and_l (leb events max_events) (eqb entries n) (unless_passes (leb events max_events && eqb entries n) 6 (lit< tt) (sym e ∙ z)))

-- ---- a step of a tank whose heaters stand in an array

-- where there are too many layers, 1 is drawn before their temperatures are looked at
layers_first : (b p s t : Bool) (n k j : ℕ) (ks : List ℕ) → first_refusal (unless (b && p) 1 ∷ n ∷ k ∷ unless (s && (p && t)) 4 ∷ j ∷ ks) ≡ first_refusal (unless (b && p) 1 ∷ n ∷ k ∷ unless (s && t) 4 ∷ j ∷ ks)
unfolding first_refusal
layers_first b true s t n k j ks = refl
layers_first true false s t n k j ks = refl
layers_first false false s t n k j ks = refl

module _ (c : Cylinder) (n : ℕ) (fitted : List Heater) (st : State) (a : Step) where
  abbrev fixed : Fixed
  fixed = fixed_by c (placed_heaters n fitted)

  abbrev stored : Bool
  stored = leb c.layers max_layers && all_finite c.layers st.temps

  step_is : first_refusal (tank_checks fixed stored ++ step_checks fixed a) ≡ step_refusal fixed st a
  unfolding step_refusal
  step_is = layers_first (leb 1 c.layers) (leb c.layers max_layers) (not_negative c.standby && finite c.ambient) (all_finite c.layers st.temps) _ _ _ _

  -- the tank's checks decide, or the step's
  pub tank_decides : (k : ℕ) (temps : Bool) → temps ≡ stored → k ≡ first_refusal (tank_checks fixed temps) → (k ≡ 0 → ⊥) → k ≡ step_refusal fixed st a
  tank_decides k temps t e f = first_list (tank_checks fixed stored) (step_checks fixed a) k (rw (← t) e) f ∙ step_is

  pub step_decides : (k r : ℕ) (temps : Bool) → temps ≡ stored → k ≡ first_refusal (tank_checks fixed temps) → k ≡ 0
      → ((f : Fixed) → length f.heaters ≡ n → r ≡ first_refusal (step_checks f a)) → r ≡ step_refusal fixed st a
  step_decides k r temps t e z f = second_list (tank_checks fixed stored) (step_checks fixed a) k r (rw (← t) e) z (f fixed (many_placed n fitted)) ∙ step_is

  pub tank_heaters : (k : ℕ) (temps : Bool) → k ≡ first_refusal (tank_checks fixed temps) → k ≡ 0 → n ≤ max_heaters
  tank_heaters k temps e z = few_heaters n (heaters_check (length (placed_heaters n fitted))) (rw (many_placed n fitted)) (each_passes _ _ (each_passes _ _ (sym e ∙ z)).1).0

  -- what the code asks of the counts
  pub step_counts : step_refusal fixed st a ≡ 0 → (1 ≤ c.layers) × (c.layers ≤ max_layers) × (n ≤ max_heaters) × (a.events ≤ max_events)
  unfolding step_refusal
  step_counts passed =
      let p = tank_passes fixed (all_finite c.layers st.temps) (step_checks fixed a) passed in
      let s = (both_pass (tank_checks fixed (all_finite c.layers st.temps)) (step_checks fixed a) passed).1 in
      let low = leb 1 c.layers in
      let high = leb c.layers max_layers in (
        leb→le 1 c.layers (and_l low high p.layers),
        leb→le c.layers max_layers (and_r low high p.layers),
        few_heaters n (heaters_check (length (placed_heaters n fitted))) (rw (many_placed n fitted)) (each_passes _ _ (each_passes _ _ passed).1).0,
        few_events (length (placed_heaters n fitted)) a.events a.entries _ refl (each_passes _ _ s).0,
      )
