-- Proves how an event's number is found in turn (01, refusals 9 and 10): first the mixing's, then that of what is not finite.
use Prim.Native.Nat.{ℕ}
use native.Mathlib.Omega.{arith}
use mathlib.Core.Path.{◌≡◌, refl, sym, ap, ◌∙◌}
use mathlib.Core.Bool.{Bool, true, cond}
use Rattle.std.specs.Prelude.{Result, Ok, Err}
use Rattle.refusals.specs.declared.Refusal.{Refusal}
use Rattle.refusals.specs.Refusals.{number_of, number_in}
use Rattle.refusals.proofs.Numbers.{number-not_0}
use Rattle.mixing.specs.Rearrange.{Mixing, sorted, unsorted}
use Rattle.mixing.specs.Mix.{answer_of}
use Rattle.draw_events.specs.Event.{EventMixing, unmixed, mixed, number_after}

-- the number of an event that is finite is its mixing's
pub mixing_number_lem : (m : Mixing) → number_in (answer_of m) ≡ number_after (mixed m) true
mixing_number_lem (sorted temps k) = refl
mixing_number_lem unsorted = refl

-- so is that of what it answers
pub mixing_told : (answer : Result ℕ Refusal) (m : Mixing) → answer ≡ answer_of m → number_in answer ≡ number_after (mixed m) true
mixing_told answer m e = rw e (mixing_number_lem m)

refused_lem : (m : EventMixing) (finite : Bool) → (number_after m true ≡ 0 → ⊥) → number_after m true ≡ number_after m finite
refused_lem unmixed finite h = absurd (h refl)
refused_lem (mixed (sorted temps k)) finite h = absurd (h refl)
refused_lem (mixed unsorted) finite h = refl

finite_lem : (m : EventMixing) (finite : Bool) → number_after m true ≡ 0 → cond finite 0 10 ≡ number_after m finite
finite_lem unmixed finite h = refl
finite_lem (mixed (sorted temps k)) finite h = refl
finite_lem (mixed unsorted) finite h = absurd (omega arith)

module _ (first answer : Result (Unit {0}) Refusal) where
  -- a refused mixing gives its number, finite or not
  pub number_refused : (r : Refusal) → first ≡ Err r → (y : Refusal) → answer ≡ Err y → y ≡ r → (finite : Bool) (m : EventMixing) → number_in first ≡ number_after m true → number_in answer ≡ number_after m finite
  number_refused r f y a e finite m told =
      let told : number_of r ≡ number_after m true = rw f at told in
      rw (a, e) (told ∙ refused_lem m finite (λ z. number-not_0 r (told ∙ z)))

  -- where the mixing is not refused, what is not finite decides
  pub number_finite : (v : Unit {0}) → first ≡ Ok v → (finite b : Bool) → finite ≡ b → number_in answer ≡ cond b 0 10 → (m : EventMixing) → number_in first ≡ number_after m true → number_in answer ≡ number_after m finite
  number_finite v f finite b e told m first_told = rw e (told ∙ finite_lem m b (sym first_told ∙ ap number_in f))
