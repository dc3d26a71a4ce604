-- Proves what the loops that put the texts of several things cite: those of one more are theirs and its own.
use Rattle.std.proofs.Common.{◌≡◌, refl, sym, ℕ, zero, suc, ◌+◌, ◌<◌, ◌≤◌, List, [], ◌∷◌, ◌++◌, length, take, get_or, arith, append_assoc}
use Rattle.std.proofs.lemmas.List.{append-nil}
use Rattle.std.proofs.Math.Seq.{take-suc}
use Rattle.job_lines.specs.Put.{texts}
use Rattle.job_lines.specs.Lines.{joined}

texts_append : {A : Type 0} (f : A → List ℕ) (xs : List A) (y : A) → texts f (xs ++ (y ∷ [])) ≡ texts f xs ++ f y
unfolding texts
texts_append f [] y = append-nil (f y)
texts_append f (x ∷ xs) y = rw (texts_append f xs y) (sym (append_assoc (f x) (texts f xs) (f y)))

pub texts_next : {A : Type 0} (f : A → List ℕ) (xs : List A) (i : ℕ) (x : A) → i < length xs → x ≡ get_or xs i x → texts f (take (i + 1) xs) ≡ texts f (take i xs) ++ f x
texts_next f xs i x l e =
    let s : i + 1 ≡ suc i = omega arith in
    rw s (rw (take-suc xs i x l, ← e) (texts_append f (take i xs) x))

-- so many of the places of an array
pub texts_joined : {A : Type 0} (f : A → List ℕ) (xs : List A) (d : A) (n : ℕ) → n ≤ length xs → texts f (take n xs) ≡ joined (λ k. f (get_or xs k d)) n
unfolding texts joined
texts_joined f xs d zero l = refl
texts_joined f xs d (suc n) l = rw (take-suc xs n d (omega arith), texts_append f (take n xs) (get_or xs n d), texts_joined f xs d n (omega arith)) refl
