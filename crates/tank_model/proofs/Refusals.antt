-- Proves that the checks of make and of a step answer the number of the first of the sentences that holds (01, The four calls; 02, R-1 and R-2), and 0 where
-- none does.
use mathlib.Core.Path.{◌≡◌, refl, sym, ◌∙◌, subst}
use mathlib.Core.Logic.{◌↔◌, ◌⊎◌, inl, inr, ⊎_elim}
use mathlib.Core.List.{List, [], ◌∷◌, ◌++◌}
use mathlib.Core.Bool.{Bool, cond, not, ◌&&◌}
use Prim.Native.Nat.{ℕ, zero, suc, ◌+◌, ◌<◌}
use native.Mathlib.Omega.{arith}
use lib.Dec.{T, lit<}
use lib.ListN.{length, get_or}
use lib.Ieee.{Float, nan, lt, le}
use lib.Ieee.Scale.{finite}
use lib.Ieee.Fits.{and_l, and_r, and_i}
use Rattle.numeric.specs.Double.{zero_f, one_f}
use Rattle.numeric.specs.Tabulate.{tabulate}
use Rattle.numeric.proofs.NotANumber.{at_least_number, one_or_above}
use Rattle.cylinder.specs.Layers.{all_finite}
use Rattle.set_points.specs.declared.SetPoints.{SetPoints}
use Rattle.set_points.specs.declared.SetPoints.TheVariants.{Neither, Lower, Upper, Both}
use Rattle.tank_model.specs.declared.TankDesign.{TankDesign}
use Rattle.tank_model.specs.declared.Step.{Step}
use Rattle.tank_model.specs.Fixed.{Placed, State, heater_of, fixed_of}
use Rattle.tank_model.specs.FirstRefusal.{first_refusal, first_among, decides, goes_on, last_decides, among_passes, among_found}
use Rattle.tank_model.specs.Checks.{unless, is_positive, is_position, heaters_check, heater_check, places_check, tank_checks, counts_check, volume_check, points_check, step_checks, make_refusal, step_refusal}
use Rattle.tank_model.specs.Arguments.{set_points_of, event_volume}
use Rattle.tank_model.specs.Refusals.{NotFinite, BelowZero, NotFiniteAndAboveZero, NoPosition, SomeBelow, LayerNotFinite, LayersRefused, HeatersRefused, NumbersRefused, TemperaturesRefused, PlacesRefused, CountsRefused, FeedRefused, LowerAlone, LowerAboveUpper, FirstOf, points_sentences, settings_sentences, tank_sentences, step_sentences, MakeRefusal, StepRefusal}
use Rattle.tank_model.proofs.Order.{heater_is, heaters_many}
use Rattle.tank_model.proofs.Sentences.{itself, Fails, passing, failing, fails_not, fails_test, fails_as, fails_then, fails_two, fails_three, fails_four, fails_some, fails_le, fails_eq, fails_finite, fails_negative}

-- ---- the first sentence that holds

-- no sentence has the number 0
abbrev pub Numbered : List (ℕ × Type 0) → Type 0
Numbered [] = Unit {0}
Numbered (x ∷ xs) = (0 < x.0) × Numbered xs

-- the checks ks, one after the other, answer the number of the first of the sentences xs that holds
record Answer (xs : List (ℕ × Type 0)) (ks : List ℕ) : Type 0 where
  first : FirstOf xs (first_refusal ks)

first_then : (xs ys : List (ℕ × Type 0)) (k : ℕ) (ks : List ℕ) → Numbered xs → FirstOf xs k → FirstOf ys (first_refusal ks) → FirstOf (xs ++ ys) (first_refusal (k ∷ ks))
first_then [] ys k ks n e q = rw (sym (goes_on k k (first_refusal ks) ks refl e refl)) q
first_then (x ∷ xs) ys k ks n (inl p) q = inl (p.0, sym (decides k k ks refl (λ z. omega (arith, z, p.1, n.0))) ∙ p.1)
first_then (x ∷ xs) ys k ks n (inr p) q = inr (p.0, first_then xs ys k ks n.1 p.1 q)

none_left : Answer [] []
none_left = record { first = unfold first_refusal in refl }

-- the last check, of any sentences
the_last : (xs : List (ℕ × Type 0)) (k : ℕ) → FirstOf xs k → Answer xs (k ∷ [])
the_last xs k f = record { first = subst (FirstOf xs) (last_decides k k refl) f }

-- a check, of one sentence or more, and then the checks after it
then : (xs : List (ℕ × Type 0)) {ys : List (ℕ × Type 0)} {k : ℕ} {ks : List ℕ} → Numbered xs → FirstOf xs k → Answer ys ks → Answer (xs ++ ys) (k ∷ ks)
then xs n f a = record { first = first_then xs _ _ _ n f a.first }

-- a sentence by a test, and what is answered for those after it where it does not hold
answers_then : (n : ℕ) (xs : List (ℕ × Type 0)) (k : ℕ) {b : Bool} {S : Type 0} → Fails S b → FirstOf xs k → FirstOf ((n, S) ∷ xs) (cond b k n)
answers_then n xs k (passing f) q = inr (f, q)
answers_then n xs k (failing f) q = inl (f, refl)

-- one sentence: by a test, by two checks of one number, and by a check of places one after the other
answers : (n : ℕ) {b : Bool} {S : Type 0} → Fails S b → FirstOf ((n, S) ∷ []) (unless b n)
answers n f = answers_then n [] 0 f refl

answers_either : (n k j : ℕ) (S R : Type 0) → 0 < n → FirstOf ((n, S) ∷ []) k → FirstOf ((n, R) ∷ []) j → FirstOf ((n, S ⊎ R) ∷ []) (first_refusal (k ∷ j ∷ []))
answers_either n k j S R l (inl p) q = inl (inl p.0, sym (decides k k (j ∷ []) refl (λ z. omega (arith, z, p.1))) ∙ p.1)
answers_either n k j S R l (inr p) (inl q) = inl (inr q.0, sym (goes_on k k j (j ∷ []) refl p.1 (last_decides j j refl)) ∙ q.1)
answers_either n k j S R l (inr p) (inr q) = inr (λ x. ⊎_elim p.0 q.0 x, sym (goes_on k k j (j ∷ []) refl p.1 (last_decides j j refl)) ∙ q.1)

answers_some : (n : ℕ) (check : ℕ → ℕ) (m : ℕ) (P : ℕ → Type 0) → 0 < n → ((k : ℕ) → k < m → FirstOf ((n, P k) ∷ []) (check k)) → FirstOf ((n, SomeBelow m P) ∷ []) (first_among check m)
answers_some n check m P l each = go (first_among check m) refl
  where
    none : (k : ℕ) → FirstOf ((n, P k) ∷ []) (check k) → check k ≡ 0 → ¬ (P k)
    none k (inl p) z = absurd (omega (arith, z, p.1))
    none k (inr p) z = p.0

    some : (k r : ℕ) → k < m → check k ≡ suc r → FirstOf ((n, P k) ∷ []) (check k) → FirstOf ((n, SomeBelow m P) ∷ []) (suc r)
    some k r u e (inl p) = inl ((k, u, p.0), sym e ∙ p.1)
    some k r u e (inr p) = absurd (omega (arith, e, p.1))

    go : (r : ℕ) → first_among check m ≡ r → FirstOf ((n, SomeBelow m P) ∷ []) r
    go zero e = inr (λ x. none x.0 (each x.0 x.1) (among_passes check m e x.0 x.1) x.2, refl)
    go (suc r) e = let f = among_found check m r e in some f.place r f.within f.number (each f.place f.within)

-- there is one
pub first_once : (xs : List (ℕ × Type 0)) (n k : ℕ) → FirstOf xs n → FirstOf xs k → n ≡ k
first_once [] n k p q = p ∙ sym q
first_once (x ∷ xs) n k (inl p) (inl q) = p.1 ∙ sym q.1
first_once (x ∷ xs) n k (inl p) (inr q) = absurd (q.0 p.0)
first_once (x ∷ xs) n k (inr p) (inl q) = absurd (p.0 q.0)
first_once (x ∷ xs) n k (inr p) (inr q) = first_once xs n k p.1 q.1

-- ---- the checks, one by one

two_facts : (a b : Bool) → T (a && b) ↔ (T a × T b)
two_facts a b = (λ t. (and_l a b t, and_r a b t), λ x. and_i a b x.0 x.1)

positive_fails : (x : Float) → Fails (NotFiniteAndAboveZero x) (is_positive x)
positive_fails x = fails_not (is_positive x) (two_facts (finite x) (lt zero_f x))

position_fails : (x : Float) → Fails (NoPosition x) (is_position x)
position_fails x =
    fails_then (fails_not (le zero_f x) itself)
    (λ t. subst (Fails (T (lt one_f x))) (sym (one_or_above x (at_least_number zero_f x t))) (fails_test (lt one_f x)))

heater_answers : (x : Placed) → FirstOf ((5, (NotFinite x.rated ⊎ BelowZero x.rated) ⊎ NoPosition x.position ⊎ NoPosition x.thermostat) ∷ []) (heater_check x)
heater_answers x = answers 5 (fails_three (fails_negative x.rated) (position_fails x.position) (position_fails x.thermostat))

-- the sentences after 12's
abbrev finite_points : SetPoints → List (ℕ × Type 0)
finite_points p = (8, LowerAlone p) ∷ (13, LowerAboveUpper p) ∷ []

points_answer : (p : SetPoints) → FirstOf (points_sentences p) (points_check p)
unfolding points_check
points_answer Neither = inr (λ x. x, inr (λ x. x, inr (λ x. x, refl)))
points_answer (Lower l) = answers_then 12 (finite_points (Lower l)) 8 (fails_finite l) (inl (tt, refl))
points_answer (Upper u) = answers_then 12 (finite_points (Upper u)) 0 (fails_finite u) (inr (λ x. x, inr (λ x. x, refl)))
points_answer (Both l u) =
    answers_then 12 (finite_points (Both l u)) (unless (not (lt u l)) 13) (fails_two (fails_finite l) (fails_finite u)) (inr (λ x. x, answers 13 (fails_test (lt u l))))

settings_answer : (a : Step) (n h : ℕ) → Answer (settings_sentences a n h) (tabulate (λ (k : ℕ). points_check (set_points_of a k)) n h)
unfolding tabulate
settings_answer a zero h = none_left
settings_answer a (suc n) h = then (points_sentences (set_points_of a h)) (lit< tt, (lit< tt, (lit< tt, tt))) (points_answer (set_points_of a h)) (settings_answer a n (h + 1))

pub layers_fail : (m : TankDesign) (temps : List Float) → Fails (LayerNotFinite m temps) (all_finite m.layers temps)
unfolding all_finite
layers_fail m temps = fails_some (λ (k : ℕ). finite (get_or temps k nan)) m.layers _ (λ k l. fails_finite (get_or temps k nan))

none_is_zero : (n : ℕ) → (n < 1) ↔ (n ≡ 0)
none_is_zero n = (λ l. omega arith, λ e. omega arith)

module _ (m : TankDesign) where
  heaters_answer : FirstOf ((2, HeatersRefused m) ∷ []) (heaters_check (length (fixed_of m).heaters))
  heaters_answer = rw (heaters_many m) (answers 2 (fails_le m.heaters 8))

  counts_answer : (a : Step) → FirstOf ((6, CountsRefused m a) ∷ []) (counts_check (length (fixed_of m).heaters) a.events a.entries)
  counts_answer a = rw (heaters_many m) (answers 6 (fails_two (fails_le a.events 64) (fails_eq a.entries m.heaters)))

  places_answer : FirstOf ((5, PlacesRefused m) ∷ []) (places_check (fixed_of m).heaters)
  places_answer = rw (heaters_many m) (answers_some 5 (λ (h : ℕ). heater_check (heater_of (fixed_of m) h)) m.heaters _ (lit< tt) (λ h l. rw (heater_is m h l) (heater_answers _)))

  -- 1 to 5, and then what the checks ks answer
  tank_answers : (temps : Bool) (Temperature : Type 0) (rest : List (ℕ × Type 0)) (ks : List ℕ) → Fails Temperature temps → Answer rest ks
      → Answer (tank_sentences m Temperature ++ rest) (tank_checks (fixed_of m) temps ++ ks)
  tank_answers temps Temperature rest ks t r =
      let one = answers 1 (fails_two (fails_as (none_is_zero m.layers) (fails_le 1 m.layers)) (fails_le m.layers 32)) in
      let three = answers 3 (fails_four (positive_fails m.volume) (positive_fails m.rho) (positive_fails m.cp) (positive_fails m.timestep)) in
      let four = answers 4 (fails_three (fails_negative m.standby) (fails_finite m.ambient) t) in
      then ((1, LayersRefused m) ∷ []) (lit< tt, tt) one
      (then ((2, HeatersRefused m) ∷ []) (lit< tt, tt) heaters_answer
      (then ((3, NumbersRefused m) ∷ []) (lit< tt, tt) three
      (then ((4, TemperaturesRefused m Temperature) ∷ []) (lit< tt, tt) four
      (then ((5, PlacesRefused m) ∷ []) (lit< tt, tt) places_answer r))))

  -- 6, 7, and the set points
  step_answers : (a : Step) → Answer (step_sentences m a) (step_checks (fixed_of m) a)
  step_answers a =
      let volumes = answers_some 7 (λ (i : ℕ). volume_check (event_volume a i)) a.events _ (lit< tt) (λ i l. answers 7 (fails_negative (event_volume a i))) in
      let seven = answers_either 7 _ _ _ _ (lit< tt) (answers 7 (fails_finite a.feed)) volumes in
      then ((6, CountsRefused m a) ∷ []) (lit< tt, tt) (counts_answer a)
      (then ((7, FeedRefused a) ∷ []) (lit< tt, tt) seven
      (the_last (settings_sentences a a.entries 0) _ (settings_answer a a.entries 0).first))

  -- ---- what make and a step are refused for: n exactly when n's sentence holds and none before it

  refusal_of_make : MakeRefusal m (make_refusal (fixed_of m) m.initial)
  unfolding make_refusal
  refusal_of_make = (tank_answers (finite m.initial) (NotFinite m.initial) [] [] (fails_finite m.initial) none_left).first

  refusal_of_step : (st : State) (a : Step) → StepRefusal m st a (step_refusal (fixed_of m) st a)
  unfolding step_refusal
  refusal_of_step st a =
      (tank_answers (all_finite m.layers st.temps) (LayerNotFinite m st.temps) (step_sentences m a) (step_checks (fixed_of m) a)
      (layers_fail m st.temps) (step_answers a)).first

  pub make_refused_as : (n : ℕ) → (make_refusal (fixed_of m) m.initial ≡ n) ↔ MakeRefusal m n
  make_refused_as n = (
    λ e. subst (MakeRefusal m) e refusal_of_make,
    λ r. first_once (tank_sentences m (NotFinite m.initial)) (make_refusal (fixed_of m) m.initial) n refusal_of_make r,
  )

  pub step_refused_as : (st : State) (a : Step) (n : ℕ) → (step_refusal (fixed_of m) st a ≡ n) ↔ StepRefusal m st a n
  step_refused_as st a n = (
    λ e. subst (StepRefusal m st a) e (refusal_of_step st a),
    λ r. first_once (tank_sentences m (LayerNotFinite m st.temps) ++ step_sentences m a) (step_refusal (fixed_of m) st a) n (refusal_of_step st a) r,
  )
