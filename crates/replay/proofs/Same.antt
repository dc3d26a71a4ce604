-- Proves how texts are compared part after part (01, Figures to hold it against: the stored answers), and that the test of sameness is equality.
use Rattle.std.proofs.Common.{◌≡◌, ◌≢◌, rules, ℕ, Bool, true, false, ◌&&◌, eqb, List, [], ◌∷◌, ◌++◌, length, refl, sym, ap, ◌∙◌, arith, ne_eqb}
use Rattle.std.proofs.lemmas.Slice.Eq.{bytes_eq-Decides}
use Rattle.replay.specs.Same.{same_text}

-- the test says just that the two are equal
pub same_equal : (xs ys : List ℕ) → same_text xs ys ≡ true → xs ≡ ys
same_equal xs ys = (bytes_eq-Decides xs ys).0

own : (n : ℕ) → eqb n n ≡ true
own n = search rules

-- two texts that begin with one part: what comes after it decides
pub same_after : (part xs ys : List ℕ) → same_text (part ++ xs) (part ++ ys) ≡ same_text xs ys
same_after [] xs ys = refl
same_after (b ∷ part) xs ys = ap (λ (t : Bool). t && same_text (part ++ xs) (part ++ ys)) (own b) ∙ same_after part xs ys

-- a text that does not begin with a part is no text that does
pub same_differs : (xs part ys : List ℕ) → ((rest : List ℕ) → xs ≢ part ++ rest) → same_text xs (part ++ ys) ≡ false
same_differs xs part ys h = go (same_text xs (part ++ ys)) (same_equal xs (part ++ ys))
  where
    go : (b : Bool) → (b ≡ true → xs ≡ part ++ ys) → b ≡ false
    go true e = absurd (h ys (e refl))
    go false e = refl

-- against nothing, a text is the same just where it is empty
pub same_empty : (xs : List ℕ) → same_text xs [] ≡ eqb (length xs) 0
same_empty [] = refl
same_empty (x ∷ xs) = sym (ne_eqb (length (x ∷ xs)) 0 (λ e. omega (arith, e)))
