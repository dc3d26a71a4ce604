-- Proves the laws of a run of parts (01, Step; Turn): over `++`, what it leaves, with which number it ends, and its induction principle; that a run's parts stand in
-- sequence, and that a sequence leaves no choice where none of its parts does. The events, the turns and the calls of a list cite these and no others.
use Prim.Native.Nat.{ℕ, zero, suc, ◌<◌}
use native.Mathlib.Nat.{le_of_suc-le-suc, not-suc-le-zero}
use native.Mathlib.Omega.{arith}
use mathlib.Core.Path.{◌≡◌, refl, sym, ap, ◌∙◌, subst}
use mathlib.Core.Logic.{◌⊎◌, inl, inr}
use mathlib.Core.List.{List, [], ◌∷◌, ◌++◌}
use lib.ListN.{length, get_or, take}
use Rattle.tank_model.specs.Run.{End, refused, done, end_by, ended_at, Worked, Run, first, run, InSequence}
use Rattle.tank_model.specs.Members.{All}

pub not_done : {S : Type 0} (n : ℕ) (s : S) → refused n ≡ done s → ⊥
not_done n s h = let z : ◌≡◌ {A = ℕ} 0 1 = cc in omega arith

pub done_inj : {S : Type 0} (s t : S) → done s ≡ done t → s ≡ t
done_inj s t e = ap (ended_at s) e

-- the parts ps stand in sequence from s up to the end e
abbrev pub Ran : {K P S : Type 0} → (K → S → P → S → Type 0) → (P → S → ℕ → Type 0) → S → List K → List P → End S → Type 0
Ran {S = S} Part Draws s ks ps e = InSequence Part Draws (λ (x : S). e ≡ done x) (λ (n : ℕ). e ≡ refused n) s ks ps

-- where a run ended: with a number above 0, or with what R says
abbrev pub Reached : {S : Type 0} → (S → Type 0) → End S → Type 0
Reached R (refused n) = 0 < n
Reached R (done s) = R s

pub reached_by : {S : Type 0} (R : S → Type 0) (n : ℕ) (s : S) → R s → Reached R (end_by n s)
unfolding end_by
reached_by R zero s r = r
reached_by R (suc n) s r = omega arith

-- where it was refused, its number is as Q says
abbrev pub RefusedOnly : {S : Type 0} → (ℕ → Type 0) → End S → Type 0
RefusedOnly Q (refused n) = Q n
RefusedOnly Q (done s) = Unit {0}

pub refused_by : {S : Type 0} (Q : ℕ → Type 0) (n : ℕ) (s : S) → (n ≡ 0) ⊎ Q n → RefusedOnly Q (end_by n s)
unfolding end_by
refused_by Q zero s q = tt
refused_by Q (suc n) s (inl z) = absurd (omega arith)
refused_by Q (suc n) s (inr q) = q

-- ---- a run that is worked

-- the run r, and then what is worked from where it ended
unfoldable pub then_run : {P S : Type 0} → List P → End S → (S → Run P S) → Run P S
then_run ps (refused n) g = record { parts = ps; end = refused n }
then_run ps (done s) g = record { parts = ps ++ (g s).parts; end = (g s).end }

first_then : {P S : Type 0} (p : P) (n : ℕ) (r : Run P S) (g : S → Run P S)
    → first p n (then_run r.parts r.end g) ≡ then_run (first p n r).parts (first p n r).end g
unfolding first
first_then {P} {S} p zero r g = go r.parts r.end
  where
    go : (ps : List P) (e : End S) → record { parts = p ∷ (then_run ps e g).parts; end = (then_run ps e g).end } ≡ then_run (p ∷ ps) e g
    go ps (refused k) = unfold then_run in refl
    go ps (done s) = unfold then_run in refl
first_then p (suc n) r g = unfold then_run in refl

module _ {K P S : Type 0} (f : K → S → Worked P S) where
  -- the run of ks and js is that of ks, and then that of js from where the first ended
  pub run_append : (ks js : List K) (s : S) → run f (ks ++ js) s ≡ then_run (run f ks s).parts (run f ks s).end (λ t. run f js t)
  unfolding run
  run_append [] js s = unfold then_run in refl
  run_append (k ∷ ks) js s =
      let w = f k s in
      ap (first w.part w.number) (run_append ks js w.leaves) ∙ first_then w.part w.number (run f ks w.leaves) (λ t. run f js t)

  -- the first n parts of a run are the run of the first n
  pub run_take : (n : ℕ) (ks : List K) (s : S) → take n (run f ks s).parts ≡ (run f (take n ks) s).parts
  unfolding run
  run_take zero ks s = refl
  run_take (suc n) [] s = refl
  run_take (suc n) (k ∷ ks) s = go (f k s).number (run_take n ks (f k s).leaves)
    where
      p : P
      p = (f k s).part

      go : (m : ℕ) → take n (run f ks (f k s).leaves).parts ≡ (run f (take n ks) (f k s).leaves).parts
          → take (suc n) (first p m (run f ks (f k s).leaves)).parts ≡ (first p m (run f (take n ks) (f k s).leaves)).parts
      go zero e = unfold first in (ap (λ (ps : List P). p ∷ ps) e)
      go (suc m) e = unfold first in (nothing n)
        where
          nothing : (i : ℕ) → take (suc i) (p ∷ []) ≡ p ∷ []
          nothing zero = refl
          nothing (suc i) = refl

  -- what every part keeps, the run keeps
  module _ (A : K → Type 0) (I : S → Type 0) (one : (k : K) (s : S) → A k → I s → I (f k s).leaves) where
    pub run_keeps : (ks : List K) (s : S) → All A ks → I s → Reached I (run f ks s).end
    unfolding run
    run_keeps [] s a i = i
    run_keeps (k ∷ ks) s a i = go (f k s).number (run_keeps ks (f k s).leaves a.1 (one k s a.0 i))
      where
        go : (n : ℕ) → Reached I (run f ks (f k s).leaves).end → Reached I (first (f k s).part n (run f ks (f k s).leaves)).end
        go zero r = unfold first in r
        go (suc n) r = unfold first in (omega arith)

  -- a run ends with a number that one of its parts drew: what each part's number is, where it is not 0, the run's is
  module _ (Q : ℕ → Type 0) (one : (k : K) (s : S) → ((f k s).number ≡ 0) ⊎ Q (f k s).number) where
    pub run_number : (ks : List K) (s : S) → RefusedOnly Q (run f ks s).end
    unfolding run
    run_number [] s = tt
    run_number (k ∷ ks) s = go (f k s).number (one k s) (run_number ks (f k s).leaves)
      where
        go : (n : ℕ) → (n ≡ 0) ⊎ Q n → RefusedOnly Q (run f ks (f k s).leaves).end → RefusedOnly Q (first (f k s).part n (run f ks (f k s).leaves)).end
        go zero q r = unfold first in r
        go (suc n) (inl z) r = absurd (omega arith)
        go (suc n) (inr q) r = unfold first in q

  -- the parts of a run stand in sequence up to its end, where each is as `Part` and `Draws` say; I says what holds before each
  module _ (Part : K → S → P → S → Type 0) (Draws : P → S → ℕ → Type 0) (I : List K → S → Type 0)
      (one : (k : K) (ks : List K) (s : S) → I (k ∷ ks) s → let w = f k s in Part k s w.part w.leaves × Draws w.part w.leaves w.number × I ks w.leaves) where
    pub run_ran : (ks : List K) (s : S) → I ks s → Ran Part Draws s ks (run f ks s).parts (run f ks s).end
    unfolding run
    run_ran [] s i = refl
    run_ran (k ∷ ks) s i = let o = one k ks s i in go (f k s).number o.0 o.1 (run_ran ks (f k s).leaves o.2)
      where
        p : P
        p = (f k s).part

        s' : S
        s' = (f k s).leaves

        go : (n : ℕ) → Part k s p s' → Draws p s' n → Ran Part Draws s' ks (run f ks s').parts (run f ks s').end → Ran Part Draws s (k ∷ ks) (first p n (run f ks s')).parts (first p n (run f ks s')).end
        go zero o d r = unfold first in (s', o, inl (d, r))
        go (suc n) o d r = unfold first in (s', o, inr (suc n, omega arith, d, refl, refl))

-- ---- parts in sequence

module _ {K P S : Type 0} (Part : K → S → P → S → Type 0) (Draws : P → S → ℕ → Type 0) (Then : S → Type 0) (Stopped : ℕ → Type 0) where
  -- the induction principle: over no part, a part that goes on, and a part that ends the run
  module _ (R : List K → S → List P → Type 0)
      (none : (s : S) → Then s → R [] s [])
      (more : (k : K) (ks : List K) (s : S) (p : P) (s' : S) (ps : List P) → Part k s p s' → Draws p s' 0 → R ks s' ps → R (k ∷ ks) s (p ∷ ps))
      (last : (k : K) (ks : List K) (s : S) (p : P) (s' : S) (n : ℕ) → Part k s p s' → 0 < n → Draws p s' n → Stopped n → R (k ∷ ks) s (p ∷ [])) where
    pub sequence_holds : (ks : List K) (s : S) (ps : List P) → InSequence Part Draws Then Stopped s ks ps → R ks s ps
    sequence_holds [] s [] q = none s q
    sequence_holds [] s (p ∷ ps) q = absurd q
    sequence_holds (k ∷ ks) s [] q = absurd q
    sequence_holds (k ∷ ks) s (p ∷ ps) q = go q.2 (λ r. sequence_holds ks q.0 ps r)
      where
        go : (Draws p q.0 0 × InSequence Part Draws Then Stopped q.0 ks ps) ⊎ ((n : ℕ) × (0 < n) × Draws p q.0 n × Stopped n × (ps ≡ []))
            → (InSequence Part Draws Then Stopped q.0 ks ps → R ks q.0 ps) → R (k ∷ ks) s (p ∷ ps)
        go (inl x) rest = more k ks s p q.0 ps q.1 x.0 (rest x.1)
        go (inr x) rest = subst (λ (qs : List P). R (k ∷ ks) s (p ∷ qs)) (sym x.4) (last k ks s p q.0 x.0 q.1 x.1 x.2 x.3)

  -- what follows from what comes after the parts, wherever they ended
  pub sequence_then : (G : Type 0) → ((s : S) → Then s → G) → ((n : ℕ) → 0 < n → Stopped n → G)
      → (ks : List K) (s : S) (ps : List P) → InSequence Part Draws Then Stopped s ks ps → G
  sequence_then G f g = sequence_holds (λ (ks : List K) (s : S) (ps : List P). G) f (λ k ks s p s' ps o d r. r) (λ k ks s p s' n o l d t. g n l t)

  -- what comes after the parts, in other words
  pub sequence_map : (Then' : S → Type 0) (Stopped' : ℕ → Type 0) → ((x : S) → Then x → Then' x) → ((n : ℕ) → Stopped n → Stopped' n)
      → (ks : List K) (s : S) (ps : List P) → InSequence Part Draws Then Stopped s ks ps → InSequence Part Draws Then' Stopped' s ks ps
  sequence_map A S' f g =
      sequence_holds (λ (ks : List K) (s : S) (ps : List P). InSequence Part Draws A S' s ks ps) f
      (λ k ks s p s' ps o d r. (s', o, inl (d, r)))
      (λ k ks s p s' n o l d t. (s', o, inr (n, l, d, g n t, refl)))

  -- what holds of each part by what it is and draws
  pub sequence_all : (A : K → Type 0) (Q : P → Type 0)
      → ((k : K) (s : S) (p : P) (s' : S) (n : ℕ) → A k → Part k s p s' → Draws p s' n → (0 < n → Stopped n) → Q p)
      → (ks : List K) (s : S) (ps : List P) → All A ks → InSequence Part Draws Then Stopped s ks ps → All Q ps
  sequence_all A Q f ks s ps a q =
      sequence_holds (λ (js : List K) (t : S) (rs : List P). All A js → All Q rs) (λ t x b. tt)
      (λ k js t p t' rs o d r b. (f k t p t' 0 b.0 o d (λ l. absurd (not-suc-le-zero l)), r b.1))
      (λ k js t p t' n o l d x b. (f k t p t' n b.0 o d (λ z. x), tt)) ks s ps q a

-- each is to its fellow as R says
abbrev pub Pairwise : {A : Type 0} → (A → A → Type 0) → List A → List A → Type 0
Pairwise R [] [] = Unit {0}
Pairwise R [] (y ∷ ys) = ⊥
Pairwise R (x ∷ xs) [] = ⊥
Pairwise R (x ∷ xs) (y ∷ ys) = R x y × Pairwise R xs ys

module _ {K P S : Type 0} (Part : K → S → P → S → Type 0) (Draws : P → S → ℕ → Type 0) (Same : P → P → Type 0)
    (one : (k : K) (s : S) (d e : P) (s' t' : S) (n j : ℕ) → Part k s d s' → Part k s e t' → Draws d s' n → Draws e t' j → Same d e × (n ≡ j) × (n ≡ 0 → s' ≡ t'))
    (A B : S → Type 0) (X Y : ℕ → Type 0) where
  -- both go on from one place, or both stop with one number
  abbrev pub Alike : Type 0
  Alike = ((x : S) × A x × B x) ⊎ ((n : ℕ) × X n × Y n)

  pub sequence_once : (ks : List K) (ds es : List P) (s : S) → InSequence Part Draws A X s ks ds → InSequence Part Draws B Y s ks es → Pairwise Same ds es × Alike
  sequence_once [] [] [] s p q = (tt, inl (s, p, q))
  sequence_once [] [] (e ∷ es) s p q = absurd q
  sequence_once [] (d ∷ ds) es s p q = absurd p
  sequence_once (k ∷ ks) [] es s p q = absurd p
  sequence_once (k ∷ ks) (d ∷ ds) [] s p q = absurd q
  sequence_once (k ∷ ks) (d ∷ ds) (e ∷ es) s p q = go (λ p' q'. sequence_once ks ds es p.0 p' q') p.2 q.2
    where
      go : (InSequence Part Draws A X p.0 ks ds → InSequence Part Draws B Y p.0 ks es → Pairwise Same ds es × Alike)
          → (Draws d p.0 0 × InSequence Part Draws A X p.0 ks ds) ⊎ ((n : ℕ) × (0 < n) × Draws d p.0 n × X n × (ds ≡ []))
          → (Draws e q.0 0 × InSequence Part Draws B Y q.0 ks es) ⊎ ((n : ℕ) × (0 < n) × Draws e q.0 n × Y n × (es ≡ []))
          → (Same d e × Pairwise Same ds es) × Alike
      go rest (inl x) (inl y) =
          let o = one k s d e p.0 q.0 0 0 p.1 q.1 x.0 y.0 in
          let r = rest x.1 (subst (λ (t : S). InSequence Part Draws B Y t ks es) (sym (o.2 refl)) y.1) in
          ((o.0, r.0), r.1)
      go rest (inl x) (inr y) = let z = (one k s d e p.0 q.0 0 y.0 p.1 q.1 x.0 y.2).1 in absurd (omega (arith, z, y.1))
      go rest (inr x) (inl y) = let z = (one k s d e p.0 q.0 x.0 0 p.1 q.1 x.2 y.0).1 in absurd (omega (arith, z, x.1))
      go rest (inr x) (inr y) =
          let o = one k s d e p.0 q.0 x.0 y.0 p.1 q.1 x.2 y.2 in
          ((o.0, rw (x.4, y.4) tt), inr (x.0, x.3, subst Y (sym o.1) y.3))

-- ---- a run in which no part draws a number

module _ {K P S : Type 0} (f : K → S → Worked P S) (free : (k : K) (s : S) → (f k s).number ≡ 0) where
  -- what the first i parts leave
  abbrev pub left_at : List K → S → ℕ → S
  left_at ks s i = ended_at s (run f (take i ks) s).end

  pub more_parts : (k : K) (ks : List K) (s : S) → run f (k ∷ ks) s ≡ record { parts = (f k s).part ∷ (run f ks (f k s).leaves).parts; end = (run f ks (f k s).leaves).end }
  unfolding run first
  more_parts k ks s = rw (free k s)

  run_done : (ks : List K) (s : S) → (t : S) × ((run f ks s).end ≡ done t)
  unfolding run
  run_done [] s = (s, refl)
  run_done (k ∷ ks) s = let r = run_done ks (f k s).leaves in (r.0, ap (λ (x : Run P S). x.end) (more_parts k ks s) ∙ r.1)

  pub run_length : (ks : List K) (s : S) → length (run f ks s).parts ≡ length ks
  unfolding run
  run_length [] s = refl
  run_length (k ∷ ks) s = ap (λ (x : Run P S). length x.parts) (more_parts k ks s) ∙ ap suc (run_length ks (f k s).leaves)

  -- what a run with one part more leaves
  pub ended_more : (k : K) (ks : List K) (s : S) → ended_at s (run f (k ∷ ks) s).end ≡ ended_at (f k s).leaves (run f ks (f k s).leaves).end
  ended_more k ks s =
      let r = run_done ks (f k s).leaves in
      ap (λ (x : Run P S). ended_at s x.end) (more_parts k ks s) ∙ ap (ended_at s) r.1 ∙ sym (ap (ended_at (f k s).leaves) r.1)

  -- the part i is that of the i-th, from what the parts before it left
  module _ (kd : K) (pd : P) (I : S → Type 0) (keeps : (k : K) (s : S) → I s → I (f k s).leaves) (Q : K → S → P → S → Type 0)
      (one : (k : K) (s : S) → I s → Q k s (f k s).part (f k s).leaves) where
    pub run_each : (ks : List K) (s : S) → I s → (i : ℕ) → i < length ks → Q (get_or ks i kd) (left_at ks s i) (get_or (run f ks s).parts i pd) (left_at ks s (suc i))
    unfolding run
    run_each [] s h i l = absurd (not-suc-le-zero l)
    run_each (k ∷ ks) s h zero l = rw (more_parts k ks s, ended_more k [] s) (one k s h)
    run_each (k ∷ ks) s h (suc i) l =
        rw (more_parts k ks s, ended_more k (take i ks) s, ended_more k (take (suc i) ks) s) (run_each ks (f k s).leaves (keeps k s h) i (le_of_suc-le-suc l))
