-- Proves that whatever make or a step is refused for has the number of a refusal (01, The four calls; 02, R-1), so that a `Refusal` tells it.
use Rattle.std.proofs.Common.{◌≡◌, refl, ℕ, zero, suc, ◌+◌, arith, Bool, true, false, List, [], ◌∷◌, ◌++◌, length}
use Rattle.std.specs.Prelude.{◌⊎◌, cond, ◌&&◌, not}
use Rattle.std.proofs.Common.{inl, inr}
use Rattle.std.specs.Float.Ieee.{lt}
use Rattle.std.specs.Float.Ieee.Scale.{finite}
use Rattle.refusals.specs.Refusals.{number_of, refusal_with}
use Rattle.cylinder.specs.Layers.{all_finite}
use Rattle.numeric.specs.Tabulate.{tabulate}
use Rattle.set_points.specs.declared.SetPoints.{SetPoints}
use Rattle.set_points.specs.declared.SetPoints.TheVariants.{Neither, Lower, Upper, Both}
use Rattle.tank_model.specs.declared.TankDesign.{TankDesign}
use Rattle.tank_model.specs.declared.Step.{Step}
use Rattle.tank_model.specs.Fixed.{Fixed, State, fixed_of}
use Rattle.tank_model.specs.FirstRefusal.{first_refusal}
use Rattle.tank_model.specs.Checks.{unless, points_check, tank_checks, step_checks, make_refusal, step_refusal}
use Rattle.tank_model.specs.Run.{End, refused, done}
use Rattle.tank_model.specs.Work.{begin, work}
use Rattle.tank_model.proofs.Run.{RefusedOnly}
use Rattle.tank_model.proofs.WorkNumbers.{NineOrTen, worked_number}

-- n is the number of the refusal that is told by it
abbrev pub IsNumber : ℕ → Type 0
IsNumber n = number_of (refusal_with n) ≡ n

-- n is one, or 0
abbrev pub Numbered : ℕ → Type 0
Numbered n = (n ≡ 0) ⊎ IsNumber n

pub above_zero : (n : ℕ) → Numbered n → (n ≡ 0 → ⊥) → IsNumber n
above_zero n (inl z) h = absurd (h z)
above_zero n (inr e) h = e

-- ---- the checks

unless_numbered : (b : Bool) (n : ℕ) → IsNumber n → Numbered (unless b n)
unless_numbered true n e = inl refl
unless_numbered false n e = inr e

cons_numbered : (n : ℕ) (ns : List ℕ) → Numbered n → Numbered (first_refusal ns) → Numbered (first_refusal (n ∷ ns))
unfolding first_refusal
cons_numbered zero ns a b = b
cons_numbered (suc n) ns a b = a

none_numbered : Numbered (first_refusal [])
unfolding first_refusal
none_numbered = inl refl

among_numbered : (check : ℕ → ℕ) → ((i : ℕ) → Numbered (check i)) → (n i : ℕ) → Numbered (first_refusal (tabulate check n i))
unfolding tabulate
among_numbered check h zero i = none_numbered
among_numbered check h (suc n) i = cons_numbered (check i) (tabulate check n (i + 1)) (h i) (among_numbered check h n (i + 1))

both_numbered : (ns ms : List ℕ) → Numbered (first_refusal ns) → Numbered (first_refusal ms) → Numbered (first_refusal (ns ++ ms))
unfolding first_refusal
both_numbered [] ms a b = b
both_numbered (zero ∷ ns) ms a b = both_numbered ns ms a b
both_numbered (suc n ∷ ns) ms a b = a

points_numbered : (p : SetPoints) → Numbered (points_check p)
unfolding points_check
points_numbered Neither = inl refl
points_numbered (Lower l) = go (finite l)
  where
    go : (b : Bool) → Numbered (cond b 8 12)
    go true = inr refl
    go false = inr refl
points_numbered (Upper u) = unless_numbered (finite u) 12 refl
points_numbered (Both l u) = go (finite l && finite u) (not (lt u l))
  where
    go : (b d : Bool) → Numbered (cond b (unless d 13) 12)
    go true d = unless_numbered d 13 refl
    go false d = inr refl

tank_numbered : (f : Fixed) (temps : Bool) → Numbered (first_refusal (tank_checks f temps))
tank_numbered f temps =
    cons_numbered _ _ (unless_numbered _ 1 refl)
    (cons_numbered _ _ (unless_numbered _ 2 refl)
    (cons_numbered _ _ (unless_numbered _ 3 refl)
    (cons_numbered _ _ (unless_numbered _ 4 refl)
    (cons_numbered _ _ (among_numbered _ (λ h. unless_numbered _ 5 refl) (length f.heaters) 0) none_numbered))))

steps_numbered : (f : Fixed) (a : Step) → Numbered (first_refusal (step_checks f a))
steps_numbered f a =
    cons_numbered _ _ (unless_numbered _ 6 refl)
    (cons_numbered _ _
    (cons_numbered _ _ (unless_numbered _ 7 refl) (cons_numbered _ _ (among_numbered _ (λ i. unless_numbered _ 7 refl) a.events 0) none_numbered))
    (cons_numbered _ _ (among_numbered _ (λ h. points_numbered _) a.entries 0) none_numbered))

pub make_numbered : (m : TankDesign) → Numbered (make_refusal (fixed_of m) m.initial)
unfolding make_refusal
make_numbered m = tank_numbered (fixed_of m) (finite m.initial)

pub step_numbered : (f : Fixed) (st : State) (a : Step) → Numbered (step_refusal f st a)
unfolding step_refusal
step_numbered f st a = both_numbered (tank_checks f (all_finite f.cylinder.layers st.temps)) (step_checks f a) (tank_numbered f _) (steps_numbered f a)

-- ---- a step's work

nine_or_ten : (n : ℕ) → NineOrTen n → IsNumber n
nine_or_ten n (inl e) = rw e
nine_or_ten n (inr e) = rw e

weaker : {S : Type 0} (e : End S) → RefusedOnly NineOrTen e → RefusedOnly IsNumber e
weaker (refused n) q = nine_or_ten n q
weaker (done s) q = tt

pub work_numbered : (f : Fixed) (st : State) (a : Step) → RefusedOnly IsNumber (work f st a).end
unfolding work
work_numbered f st a = go (step_refusal f st a) (step_numbered f st a)
  where
    go : (n : ℕ) → Numbered n → RefusedOnly IsNumber (begin f st a n).end
    go zero x = weaker (begin f st a 0).end (worked_number f st a)
    go (suc n) (inl z) = absurd (omega arith)
    go (suc n) (inr e) = unfold begin in e
