-- Proves what a closure makes that is called at each place, what a loop leaves that writes three places for each heater, and what stands in a list's places.
use Rattle.std.proofs.Common.{◌≡◌, refl, ap, subst, ◌∙◌, ℕ, zero, suc, ◌+◌, arith, List, [], ◌∷◌, ◌++◌, get_or, length, set, drop, replicate, drop-cons, add-one}
use Rattle.std.specs.Fn.{Mut, Called}
use Rattle.std.specs.Array.{IsFromFnResult, IsFromFnResultFrom}
use Rattle.std.specs.Prelude.{map, ◌<◌, ◌≤◌}
use lib.ListN.{length-map, get_or-map, drop_of_length-le}
use lib.Seq.{take_all}
use mathlib.Core.List.{append-nil}
use Rattle.numeric.specs.Copy.{copied, copied_next}
use Rattle.numeric.specs.Iterate.{iterate}
use Rattle.numeric.specs.Tabulate.{tabulate, tabulate_same}
use Rattle.working_order.specs.Order.{max_heaters}
use Rattle.numeric.specs.Double.{zero_f}
use Rattle.tank_model.specs.declared.Heater.{Heater}
use Rattle.tank_model.specs.Fixed.{no_heater}
use Rattle.lent_tank.specs.Layout.{two_each, three_each, fitted_in, heaters_of, thermostats_of}
use Rattle.std.specs.Prelude.{Option, Some, None, is_some, unwrap_or, Bool, true, false, Float}
use Rattle.std.specs.Bool.{then_some}
use Rattle.std.specs.Float.{nan}

-- ---- a row, made by a closure that is called at each place, answers as f and leaves what it reads as it was

module _ {F A : Type 0} (g : Mut F (ℕ × Unit {0}) A) (s : F) (f : ℕ → A) (ys : List A) (m : ℕ)
    (says : (i : ℕ) (y : A) (t : F) → i < m → Called g s (i, tt) y t → (y ≡ f i) × (t ≡ s)) where
  row_from : (n i : ℕ) (t : F) → length ys ≡ m → t ≡ s → i + n ≡ m → IsFromFnResultFrom g t ys i n → drop i ys ≡ tabulate f n i
  unfolding tabulate
  row_from zero i t long e l h = drop_of_length-le ys (omega arith)
  row_from (suc n) i t long e l (q, y, at, call, rest) =
      let w = says i y q (omega arith) (subst (λ (k : F). Called g k (i, tt) y q) e call) in
      let here : i < length ys = omega arith in
      let next : drop (suc i) ys ≡ tabulate f n (i + 1) = rw (← add-one i) (row_from n (i + 1) q long w.1 (omega arith) rest) in
      drop-cons ys i y here ∙ rw (at.0, w.0, next)

  pub row : IsFromFnResult g s ys m → ys ≡ tabulate f m 0
  row h = row_from m 0 s h.long refl (omega arith) h.each

-- ---- three rows, written heater by heater

module _ {A : Type 0} (f g e : ℕ → A) where
  abbrev pub three_at : ℕ → List A → List A
  three_at h xs = set (set (set xs h (f h)) (max_heaters + h) (g h)) (two_each + h) (e h)

  pub three_rows : (a : A) → iterate three_at max_heaters 0 (replicate three_each a) ≡ tabulate f max_heaters 0 ++ (tabulate g max_heaters 0 ++ tabulate e max_heaters 0)
  unfolding iterate tabulate
  three_rows a = refl

-- ---- each item of a list by a function

module _ {A B : Type 0} (f : A → B) (d : A) (xs : List A) (ys zs : List B) (n : ℕ) (many : length xs ≡ n) (room : length ys ≡ n) where
  pub mapped_next : (i : ℕ) → i < n → zs ≡ copied i (map f xs) ys → set zs i (f (get_or xs i d)) ≡ copied (i + 1) (map f xs) ys
  mapped_next i l e =
      let m : i < length (map f xs) = simp length-map (omega arith) in
      let r : i < length ys = omega arith in
      rw (e, ← get_or-map f xs i d) (copied_next (f d) i (map f xs) ys m r)

  pub mapped_end : (i : ℕ) → n ≤ i → zs ≡ copied i (map f xs) ys → zs ≡ map f xs
  mapped_end i l e =
      let m : length (map f xs) ≤ i = simp length-map (omega arith) in
      let r : length ys ≤ i = omega arith in
      e ∙ rw (take_all i (map f xs) m, drop_of_length-le ys r) (append-nil (map f xs))

-- ---- a list is the list of its places

module _ {A : Type 0} (d : A) where
  places_from : (xs : List A) (g : ℕ → A) (i : ℕ) → ((j : ℕ) → g (i + j) ≡ get_or xs j d) → tabulate g (length xs) i ≡ xs
  unfolding tabulate
  places_from [] g i h = refl
  places_from (x ∷ xs) g i h =
      let first : i ≡ i + 0 = omega arith in
      rw (ap g first ∙ h 0, places_from xs g (i + 1) (λ j. let next : i + 1 + j ≡ i + suc j = omega arith in ap g next ∙ h (suc j)))

  pub places : (n : ℕ) (xs : List A) → length xs ≡ n → tabulate (λ (i : ℕ). get_or xs i d) n 0 ≡ xs
  places n xs e = subst (λ (k : ℕ). tabulate (λ (i : ℕ). get_or xs i d) k 0 ≡ xs) e (places_from xs (λ (i : ℕ). get_or xs i d) 0 (λ j. let start : 0 + j ≡ j = omega arith in ap (λ (k : ℕ). get_or xs k d) start))

-- ---- heaters that are laid out and read again are what they were

back : Heater → Heater
back x = record { rated = x.rated; position = x.position; thermostat = then_some (is_some x.thermostat) (unwrap_or x.thermostat zero_f) }

heater_back : (x : Heater) → back x ≡ x
unfolding back
heater_back x = go x.thermostat
  where
    go : (t : Option Float) → ◌≡◌ {A = Heater} (record { rated = x.rated; position = x.position; thermostat = then_some (is_some t) (unwrap_or t zero_f) }) (record { rated = x.rated; position = x.position; thermostat = t })
    go None = refl
    go (Some y) = refl

pub heaters_back : (xs : List Heater) → length xs ≡ max_heaters → fitted_in (heaters_of xs) (thermostats_of xs) ≡ xs
unfolding fitted_in heaters_of thermostats_of tabulate back
heaters_back xs e =
    let laid : fitted_in (heaters_of xs) (thermostats_of xs) ≡ tabulate (λ (h : ℕ). back (get_or xs h no_heater)) max_heaters 0 = refl in
    laid
    ∙ tabulate_same (λ (h : ℕ). back (get_or xs h no_heater)) (λ (h : ℕ). get_or xs h no_heater) max_heaters 0 (λ h l u. heater_back (get_or xs h no_heater))
    ∙ places no_heater max_heaters xs e

-- and so are their flags
pub thermostats_back : (heaters : List Float) (bs : List Bool) → length bs ≡ max_heaters → thermostats_of (fitted_in heaters bs) ≡ bs
unfolding fitted_in thermostats_of tabulate
thermostats_back heaters bs e =
    let read : thermostats_of (fitted_in heaters bs) ≡ tabulate (λ (h : ℕ). is_some (then_some (get_or bs h false) (get_or heaters (two_each + h) nan))) max_heaters 0 = refl in
    read
    ∙ tabulate_same (λ (h : ℕ). is_some (then_some (get_or bs h false) (get_or heaters (two_each + h) nan))) (λ (h : ℕ). get_or bs h false) max_heaters 0
    (λ h l u. some_back (get_or bs h false) (get_or heaters (two_each + h) nan))
    ∙ places false max_heaters bs e
  where
    some_back : (b : Bool) (x : Float) → is_some (then_some b x) ≡ b
    some_back true x = refl
    some_back false x = refl
