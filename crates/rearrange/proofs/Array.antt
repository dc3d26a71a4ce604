-- Proves that the call mix may work on its layers in an array that has more places (01, The four calls): answer and layers are those of the layers alone.
use mathlib.Core.Path.{◌≡◌, refl, ap, ◌∙◌}
use mathlib.Core.List.{List, ◌++◌}
use Prim.Native.Nat.{ℕ, ◌≤◌}
use lib.Ieee.{Float}
use lib.ListN.{length, take}
use lib.Seq.{take_at}
use Rattle.std.specs.Prelude.{Ok, Err}
use Rattle.mixing.specs.Rearrange.{Mixing, sorted, unsorted, rearrange}
use Rattle.mixing.specs.Mix.{answer_of, temps_of}
use Rattle.refusals.specs.declared.Refusal.{Refusal}
use Rattle.mixing.proofs.Length.{rearrange_length}
use Rattle.mixing.proofs.Places.{followed_by, rearrange_first}

module _ (xs ys : List Float) where
  same_answer : (m : Mixing) → answer_of (followed_by ys m) ≡ answer_of m
  same_answer (sorted us k) = refl
  same_answer unsorted = refl

  back : (m : Mixing) (k : ℕ) → answer_of m ≡ Ok k → length (temps_of xs m) ≡ length xs → take (length xs) (temps_of (xs ++ ys) (followed_by ys m)) ≡ temps_of xs m
  back (sorted us j) k a e = take_at us ys (length xs) e
  back unsorted k a e = cc

  kept : (m : Mixing) (r : Refusal) → answer_of m ≡ Err r → xs ≡ temps_of xs m
  kept (sorted us j) r a = cc
  kept unsorted r a = refl

module _ (vol xs ys : List Float) (l : 1 ≤ length xs) where
  alone : rearrange (length xs) vol (xs ++ ys) ≡ followed_by ys (rearrange (length xs) vol xs)
  alone = rearrange_first (length xs) vol vol ys (λ j h. refl) xs l refl

  pub array_answer : answer_of (rearrange (length xs) vol (xs ++ ys)) ≡ answer_of (rearrange (length xs) vol xs)
  array_answer = ap answer_of alone ∙ same_answer xs ys (rearrange (length xs) vol xs)

  pub array_accepted : (k : ℕ) → answer_of (rearrange (length xs) vol xs) ≡ Ok k → take (length xs) (temps_of (xs ++ ys) (rearrange (length xs) vol (xs ++ ys))) ≡ temps_of xs (rearrange (length xs) vol xs)
  array_accepted k a = rw alone (back xs ys (rearrange (length xs) vol xs) k a (rearrange_length (length xs) vol xs))

  pub array_refused : (r : Refusal) → answer_of (rearrange (length xs) vol xs) ≡ Err r → xs ≡ temps_of xs (rearrange (length xs) vol xs)
  array_refused r a = kept xs ys (rearrange (length xs) vol xs) r a
