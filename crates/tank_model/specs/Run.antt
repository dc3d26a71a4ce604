-- States a run of parts (01, Step; Turn): each part begins on what the one before handed on, and a part that draws a number ends the run. A step's events, its
-- turns and a list's calls are such runs. First the run as it is worked; then, in words, what it is for parts to stand in sequence.
use Rattle.std.specs.Prelude.{ℕ, zero, suc, ◌<◌, ◌≡◌, ◌⊎◌, List, [], ◌∷◌}

-- ---- as it is worked

-- a run ends with the number of a refusal, or with all done
pub data End (S : Type 0) : Type 0 where
  refused : ℕ → End S
  done : S → End S

-- the end by the number of a refusal, or 0
unfoldable pub end_by : {S : Type 0} → ℕ → S → End S
end_by zero s = done s
end_by (suc n) s = refused (suc n)

-- what it handed on at its end; s if it was refused
abbrev pub ended_at : {S : Type 0} → S → End S → S
ended_at s (refused n) = s
ended_at s (done s') = s'

-- what one part came to: what is noted of it, the number that it draws or 0, and what it hands on
pub record Worked (P S : Type 0) : Type 0 where
  pub part : P
  pub number : ℕ
  pub leaves : S

-- the parts that were worked, and where they ended
pub record Run (P S : Type 0) : Type 0 where
  pub parts : List P
  pub end : End S

-- the part p, which draws n, and then the run r
unfoldable pub first : {P S : Type 0} → P → ℕ → Run P S → Run P S
first p zero r = record { parts = p ∷ r.parts; end = r.end }
first p (suc n) r = record { parts = p ∷ []; end = refused (suc n) }

-- one part for each of ks, from s
unfoldable pub run : {K P S : Type 0} → (K → S → Worked P S) → List K → S → Run P S
run f [] s = record { parts = []; end = done s }
run f (k ∷ ks) s = let w = f k s in first w.part w.number (run f ks w.leaves)

-- ---- in words

-- The parts ps, from s: each of ks had its part, in their order, and each began on what the one before handed on: `Part k s p s'` is the part p of k, from s
-- to s'. Either all of them drew 0, and Then holds of what the last handed on; or the last of ps drew a number, for which Stopped holds.
abbrev pub InSequence : {K P S : Type 0}
    → (K → S → P → S → Type 0)
    → (P → S → ℕ → Type 0)
    → (S → Type 0)
    → (ℕ → Type 0)
    → S
    → List K
    → List P
    → Type 0
InSequence Part Draws Then Stopped s [] [] = Then s
InSequence Part Draws Then Stopped s [] (p ∷ ps) = ⊥
InSequence Part Draws Then Stopped s (k ∷ ks) [] = ⊥
InSequence {S = S} Part Draws Then Stopped s (k ∷ ks) (p ∷ ps) =
    (s' : S) × Part k s p s'
    × ((Draws p s' 0 × InSequence Part Draws Then Stopped s' ks ps) ⊎ ((n : ℕ) × (0 < n) × Draws p s' n × Stopped n × (ps ≡ [])))
