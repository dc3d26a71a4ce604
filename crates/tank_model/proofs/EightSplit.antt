-- Proves that 01's refusal 8 was split in three and nothing else changed (02, R-1): `eight_split`, of what a step is refused for before it works, and
-- `work_split`, of its whole work; and that the first faulty heater, as given, decides: `first_faulty_decides`.
use mathlib.Core.Path.{◌≡◌, refl, sym, subst}
use mathlib.Core.Logic.{◌⊎◌, ◌↔◌, inl, inr, ⊎_elim, ◌≢◌}
use mathlib.Core.Bool.{Bool, true, false, cond, not, ◌&&◌}
use mathlib.Core.List.{List, [], ◌∷◌, ◌++◌}
use Prim.Native.Nat.{ℕ, zero, suc, ◌+◌, ◌<◌, ◌≤◌}
use native.Mathlib.Omega.{arith}
use native.Mathlib.Nat.{eq-or-lt_of_le}
use lib.Dec.{leb, eqb, lit<}
use lib.ListN.{length, get_or}
use lib.Ieee.{Float, nan, lt}
use lib.Ieee.Scale.{finite}
use Rattle.numeric.specs.Tabulate.{tabulate}
use Rattle.mixing.specs.Limits.{max_layers}
use Rattle.cylinder.specs.Layers.{all_finite}
use Rattle.draw_events.specs.Lent.{max_events}
use Rattle.set_points.specs.declared.SetPoints.{SetPoints}
use Rattle.set_points.specs.declared.SetPoints.TheVariants.{Neither, Lower, Upper, Both}
use Rattle.working_order.specs.Order.{max_heaters}
use Rattle.tank_model.specs.declared.TankDesign.{TankDesign}
use Rattle.tank_model.specs.declared.Step.{Step}
use Rattle.tank_model.specs.Fixed.{Placed, not_placed, Fixed, State, fixed_of}
use Rattle.tank_model.specs.FirstRefusal.{first_refusal}
use Rattle.tank_model.specs.Checks.{unless, is_positive, not_negative, is_position, heater_check, points_of, draws_check, points_check, step_refusal}
use Rattle.tank_model.specs.Run.{End, refused, done}
use Rattle.tank_model.specs.Work.{Outcome, stop, begin, work}
use Rattle.tank_model.specs.Course.{number_of}
use Rattle.tank_model.specs.Arguments.{set_points_of}
use Rattle.tank_model.specs.Refusals.{LayerNotFinite, FirstOf, points_sentences, settings_sentences, tank_sentences, argument_sentences, StepRefusal}
use Rattle.tank_model.specs.EightSplit.{old_points_check, old_step_refusal, old_work, OneOfThree, EightSplit, WorkSplit, PassedToSeven, Faulty, FirstFaulty}
use Rattle.tank_model.proofs.Run.{RefusedOnly}
use Rattle.tank_model.proofs.Refusals.{Numbered, first_once, step_refused_as}
use Rattle.tank_model.proofs.WorkNumbers.{NineOrTen, worked_number}

-- ---- two numbers that are as the split leaves them

-- no number of the split
abbrev Other : ℕ → Type 0
Other n = (n ≢ 8) × (n ≢ 12) × (n ≢ 13)

abbrev Split : ℕ → ℕ → Type 0
Split old new = ((new ≡ old) × Other old) ⊎ ((old ≡ 8) × OneOfThree new)

not_three : (n : ℕ) → Other n → ¬ (OneOfThree n)
not_three n o t = ⊎_elim o.0 (λ r. ⊎_elim o.1 o.2 r) t

split_says : (old new : ℕ) → Split old new → EightSplit old new
split_says old new (inl s) = record {
  eight = (λ e. absurd (s.1.0 e), λ t. absurd (not_three old s.1 (subst OneOfThree s.0 t)));
  others = λ n. s.0;
}
split_says old new (inr s) = record { eight = (λ e. s.1, λ t. s.0); others = λ n. absurd (n s.0) }

same : (n : ℕ) → Other n → Split n n
same n o = inl (refl, o)

three_positive : (n : ℕ) → OneOfThree n → 0 < n
three_positive n (inl e) = omega arith
three_positive n (inr (inl e)) = omega arith
three_positive n (inr (inr e)) = omega arith

passed : Split 0 0
passed = same 0 (λ e. omega arith, λ e. omega arith, λ e. omega arith)

-- a check that answers a number of its own
by_test : (b : Bool) (n : ℕ) → Other n → Split (unless b n) (unless b n)
by_test true n o = passed
by_test false n o = same n o

-- ---- the first of two lists, check by check

split_first : (old new : ℕ) (olds news : List ℕ) → Split old new → Split (first_refusal olds) (first_refusal news) → Split (first_refusal (old ∷ olds)) (first_refusal (new ∷ news))
unfolding first_refusal
split_first zero zero olds news s rest = rest
split_first zero (suc n) olds news (inl s) rest = absurd (omega (arith, s.0))
split_first zero (suc n) olds news (inr s) rest = absurd (omega (arith, s.0))
split_first (suc k) zero olds news (inl s) rest = absurd (omega (arith, s.0))
split_first (suc k) zero olds news (inr s) rest = absurd (omega (arith, three_positive 0 s.1))
split_first (suc k) (suc n) olds news s rest = s

none_left : Split (first_refusal []) (first_refusal [])
unfolding first_refusal
none_left = passed

split_among : (old new : ℕ → ℕ) → ((h : ℕ) → Split (old h) (new h)) → (n h : ℕ) → Split (first_refusal (tabulate old n h)) (first_refusal (tabulate new n h))
unfolding tabulate
split_among old new each zero h = none_left
split_among old new each (suc n) h = split_first (old h) (new h) _ _ (each h) (split_among old new each n (h + 1))

-- ---- the checks of a step

points_split : (p : SetPoints) → Split (old_points_check p) (points_check p)
unfolding old_points_check points_check
points_split Neither = passed
points_split (Lower l) = go (finite l)
  where
    go : (b : Bool) → Split 8 (cond b 8 12)
    go true = inr (refl, inl refl)
    go false = inr (refl, inr (inl refl))
points_split (Upper u) = go (finite u)
  where
    go : (b : Bool) → Split (unless b 8) (unless b 12)
    go true = passed
    go false = inr (refl, inr (inl refl))
points_split (Both l u) = go (finite l && finite u) (lt u l)
  where
    go : (b above : Bool) → Split (unless (b && not above) 8) (cond b (unless (not above) 13) 12)
    go true false = passed
    go true true = inr (refl, inr (inr refl))
    go false above = inr (refl, inr (inl refl))

-- a number below 8
below : (n : ℕ) → n < 8 → Other n
below n l = (λ e. omega arith, λ e. omega arith, λ e. omega arith)

heater_same : (x : Placed) → Split (heater_check x) (heater_check x)
heater_same x = by_test (not_negative x.rated && is_position x.position && is_position x.thermostat) 5 (below 5 (lit< tt))

draws_same : (feed : Float) (n : ℕ) (volumes : List Float) → Split (draws_check feed n volumes) (draws_check feed n volumes)
draws_same feed n volumes =
    split_first _ _ _ _ (by_test (finite feed) 7 (below 7 (lit< tt)))
    (split_first _ _ [] [] (split_among _ _ (λ i. by_test (not_negative (get_or volumes i nan)) 7 (below 7 (lit< tt))) n 0) none_left)

module _ (f : Fixed) (st : State) (a : Step) where
  step_split : Split (old_step_refusal f st a) (step_refusal f st a)
  unfolding old_step_refusal step_refusal
  step_split =
      let c = f.cylinder in
      split_first _ _ _ _ (by_test (leb 1 c.layers && leb c.layers max_layers) 1 (below 1 (lit< tt)))
      (split_first _ _ _ _ (by_test (leb (length f.heaters) max_heaters) 2 (below 2 (lit< tt)))
      (split_first _ _ _ _ (by_test (is_positive c.volume && is_positive c.rho && is_positive c.cp && is_positive c.timestep) 3 (below 3 (lit< tt)))
      (split_first _ _ _ _ (by_test (not_negative c.standby && finite c.ambient && all_finite c.layers st.temps) 4 (below 4 (lit< tt)))
      (split_first _ _ _ _ (split_among _ _ (λ h. heater_same (get_or f.heaters h not_placed)) (length f.heaters) 0)
      (split_first _ _ _ _ (by_test (leb a.events max_events && eqb a.entries (length f.heaters)) 6 (below 6 (lit< tt)))
      (split_first _ _ _ _ (draws_same a.feed a.events a.volumes)
      (split_first _ _ [] [] (split_among _ _ (λ h. points_split (points_of a h)) a.entries 0) none_left)))))))

  -- for every tank, state and step the number by 01 is 8 exactly when the number now is 8, 12 or 13, and every other number is as it was
  pub eight_split : EightSplit (old_step_refusal f st a) (step_refusal f st a)
  eight_split = split_says _ _ step_split

-- ---- the work of a step

worked_other : (n : ℕ) → NineOrTen n → Other n
worked_other n (inl z) = (λ e. omega arith, λ e. omega arith, λ e. omega arith)
worked_other n (inr z) = (λ e. omega arith, λ e. omega arith, λ e. omega arith)

end_other : (e : End Outcome) → RefusedOnly NineOrTen e → Other (number_of e)
end_other (refused n) q = worked_other n q
end_other (done s) q = below 0 (lit< tt)

module _ (f : Fixed) (st : State) (a : Step) where
  stopped : (n : ℕ) → 0 < n → begin f st a n ≡ stop n
  unfolding begin
  stopped zero l = absurd (omega arith)
  stopped (suc n) l = refl

  begun_other : (n : ℕ) → Other n → Other (number_of (begin f st a n).end)
  unfolding begin
  begun_other zero o = end_other (begin f st a 0).end (worked_number f st a)
  begun_other (suc n) o = o

  begun_split : (old new : ℕ) → Split old new → WorkSplit (begin f st a old) (begin f st a new)
  begun_split old new (inl s) = rw s.0 (inr (refl, not_three _ (begun_other old s.1)))
  begun_split old new (inr s) = inl (rw s.0 (stopped 8 (lit< tt)), (new, s.1, stopped new (three_positive new s.1)))

  -- events, turns and end are as they were with 01's check, or the step was refused with 8 and is with one of the three
  pub work_split : WorkSplit (old_work f st a) (work f st a)
  unfolding old_work work
  work_split = begun_split _ _ (step_split f st a)

-- ---- the first faulty heater decides

-- where none of xs holds, the first of xs and ys is that of ys
after_none : (xs ys : List (ℕ × Type 0)) (n : ℕ) → Numbered xs → FirstOf xs 0 → FirstOf (xs ++ ys) n → FirstOf ys n
after_none [] ys n k z f = f
after_none (x ∷ xs) ys n k (inl z) f = absurd (omega (arith, z.1, k.0))
after_none (x ∷ xs) ys n k (inr z) (inl f) = absurd (z.0 f.0)
after_none (x ∷ xs) ys n k (inr z) (inr f) = after_none xs ys n k.1 z.1 f.1

-- a heater whose set points are not faulty, and one whose are
sound_heater : (p : SetPoints) (ys : List (ℕ × Type 0)) (n : ℕ) → ¬ (Faulty p) → FirstOf (points_sentences p ++ ys) n → FirstOf ys n
sound_heater p ys n z (inl f) = absurd (z (inl f.0))
sound_heater p ys n z (inr (u, inl f)) = absurd (z (inr (inl f.0)))
sound_heater p ys n z (inr (u, inr (v, inl f))) = absurd (z (inr (inr f.0)))
sound_heater p ys n z (inr (u, inr (v, inr f))) = f.1

faulty_heater : (p : SetPoints) (ys : List (ℕ × Type 0)) (n : ℕ) → Faulty p → FirstOf (points_sentences p ++ ys) n → FirstOf (points_sentences p) n
faulty_heater p ys n z (inl f) = inl f
faulty_heater p ys n z (inr (u, inl f)) = inr (u, inl f)
faulty_heater p ys n z (inr (u, inr (v, inl f))) = inr (u, inr (v, inl f))
faulty_heater p ys n z (inr (u, inr (v, inr f))) = absurd (⊎_elim u (λ r. ⊎_elim v f.0 r) z)

settings_decided : (a : Step) (h k i n : ℕ) → i ≤ h → h < i + k → Faulty (set_points_of a h) → ((j : ℕ) → j < h → ¬ (Faulty (set_points_of a j)))
    → FirstOf (settings_sentences a k i) n → FirstOf (points_sentences (set_points_of a h)) n
settings_decided a h zero i n l u y b f = absurd (omega arith)
settings_decided a h (suc k) i n l u y b f =
    let rest = settings_sentences a k (i + 1) in
    ⊎_elim
    (λ e. subst (λ (j : ℕ). FirstOf (points_sentences (set_points_of a j)) n) e (faulty_heater (set_points_of a i) rest n (subst (λ (j : ℕ). Faulty (set_points_of a j)) (sym e) y) f))
    (λ before. settings_decided a h k (i + 1) n (omega arith) (omega arith) y b (sound_heater (set_points_of a i) rest n (b i before) f))
    (eq-or-lt_of_le l)

-- where none of 1 to 7 holds, a step is refused for the first of the faults of the first faulty heater, as given
pub first_faulty_decides : (m : TankDesign) (st : State) (a : Step) (h n : ℕ) → PassedToSeven m st a → FirstFaulty a h
    → (step_refusal (fixed_of m) st a ≡ n) ↔ FirstOf (points_sentences (set_points_of a h)) n
first_faulty_decides m st a h n p y = (
  λ e. decided n ((step_refused_as m st a n).0 e),
  λ f. first_once (points_sentences (set_points_of a h)) _ n (decided (step_refusal (fixed_of m) st a) ((step_refused_as m st a _).0 refl)) f,
)
  where
    decided : (k : ℕ) → StepRefusal m st a k → FirstOf (points_sentences (set_points_of a h)) k
    decided k r =
        settings_decided a h a.entries 0 k (omega arith) (omega (arith, y.within)) y.faulty y.before
        (after_none (tank_sentences m (LayerNotFinite m st.temps) ++ argument_sentences m a) (settings_sentences a a.entries 0) k
        (lit< tt, (lit< tt, (lit< tt, (lit< tt, (lit< tt, (lit< tt, (lit< tt, tt))))))) p r)
