-- States the first number that is not 0, of a list of checks and of a check of places one after the other (01, The four calls: the first refusal decides), and
-- proves the laws that functions and loops that look for it cite.
use Prim.Native.Nat.{ℕ, zero, suc, ◌+◌, ◌-◌, ◌≤◌, ◌<◌}
use native.Mathlib.Omega.{arith}
use Rattle.std.proofs.Math.Nat.{sub-zero}
use Rattle.std.proofs.Common.{eq-or-lt_of_le, inl, inr, ◌∙◌}
use Rattle.std.specs.Prelude.{◌⊎◌, ◌≡◌, refl, List, [], ◌∷◌, ◌++◌}
use Rattle.std.proofs.Math.Logic.{⊎_elim}
use Rattle.numeric.specs.Tabulate.{tabulate}

-- the first number that is not 0, and 0 where all are
unfoldable pub first_refusal : List ℕ → ℕ
first_refusal [] = 0
first_refusal (zero ∷ ns) = first_refusal ns
first_refusal (suc n ∷ ns) = suc n

-- the same of a check of the places 0 to below n
abbrev pub first_among : (ℕ → ℕ) → ℕ → ℕ
first_among check n = first_refusal (tabulate check n 0)

-- ---- one check after the other: k is what the next check answered, r what is answered in the end

-- it does not pass, and decides
pub decides : (k n : ℕ) (ns : List ℕ) → k ≡ n → (k ≡ 0 → ⊥) → k ≡ first_refusal (n ∷ ns)
unfolding first_refusal
decides k zero ns e f = absurd (f e)
decides k (suc n) ns e f = e

-- it passes, and the rest decides
pub goes_on : (k n r : ℕ) (ns : List ℕ) → k ≡ n → k ≡ 0 → r ≡ first_refusal ns → r ≡ first_refusal (n ∷ ns)
unfolding first_refusal
goes_on k zero r ns e z f = f
goes_on k (suc n) r ns e z f = absurd (omega arith)

-- it is the last
pub last_decides : (r n : ℕ) → r ≡ n → r ≡ first_refusal (n ∷ [])
unfolding first_refusal
last_decides r zero e = e
last_decides r (suc n) e = e

-- what passes as a whole passes each
pub each_passes : (n : ℕ) (ns : List ℕ) → first_refusal (n ∷ ns) ≡ 0 → (n ≡ 0) × (first_refusal ns ≡ 0)
unfolding first_refusal
each_passes zero ns e = (refl, e)
each_passes (suc n) ns e = absurd (omega arith)

this_or_rest : (n : ℕ) (ns : List ℕ) (r : ℕ) → first_refusal (n ∷ ns) ≡ suc r → ((n ≡ 0) × (first_refusal ns ≡ suc r)) ⊎ (n ≡ suc r)
unfolding first_refusal
this_or_rest zero ns r e = inl (refl, e)
this_or_rest (suc n) ns r e = inr e

-- two lists, one after the other
pub first_list : (ns ms : List ℕ) (k : ℕ) → k ≡ first_refusal ns → (k ≡ 0 → ⊥) → k ≡ first_refusal (ns ++ ms)
unfolding first_refusal
first_list [] ms k e f = absurd (f e)
first_list (zero ∷ ns) ms k e f = first_list ns ms k e f
first_list (suc n ∷ ns) ms k e f = e

pub second_list : (ns ms : List ℕ) (k r : ℕ) → k ≡ first_refusal ns → k ≡ 0 → r ≡ first_refusal ms → r ≡ first_refusal (ns ++ ms)
unfolding first_refusal
second_list [] ms k r e z f = f
second_list (zero ∷ ns) ms k r e z f = second_list ns ms k r e z f
second_list (suc n ∷ ns) ms k r e z f = absurd (omega arith)

pub both_pass : (ns ms : List ℕ) → first_refusal (ns ++ ms) ≡ 0 → (first_refusal ns ≡ 0) × (first_refusal ms ≡ 0)
unfolding first_refusal
both_pass [] ms e = (refl, e)
both_pass (zero ∷ ns) ms e = both_pass ns ms e
both_pass (suc n ∷ ns) ms e = absurd (omega arith)

-- ---- places, one after the other

module _ (check : ℕ → ℕ) where
  -- the invariant of a loop over the places below n: those before i pass
  abbrev pub Searched : ℕ → ℕ → Type 0
  Searched n i = (i ≤ n) × (first_refusal (tabulate check (n - i) i) ≡ first_among check n)

  pub searched_start : (n : ℕ) → Searched n 0
  searched_start n = (omega arith, rw sub-zero)

  next : (n i : ℕ) → i < n → Searched n i → first_refusal (check i ∷ tabulate check (n - (i + 1)) (i + 1)) ≡ first_among check n
  unfolding tabulate
  next n i h r =
      let e : n - i ≡ suc (n - (i + 1)) = omega arith in
      rw e at r.1

  pub searched_turn : (n i k : ℕ) → i < n → k ≡ check i → k ≡ 0 → Searched n i → Searched n (i + 1)
  searched_turn n i k h e z r = (omega arith, goes_on k (check i) _ (tabulate check (n - (i + 1)) (i + 1)) e z refl ∙ next n i h r)

  pub searched_stop : (n i k : ℕ) → i < n → k ≡ check i → (k ≡ 0 → ⊥) → Searched n i → k ≡ first_among check n
  searched_stop n i k h e f r = decides k (check i) (tabulate check (n - (i + 1)) (i + 1)) e f ∙ next n i h r

  pub searched_end : (n i : ℕ) → n ≤ i → Searched n i → 0 ≡ first_among check n
  unfolding tabulate first_refusal
  searched_end n i h r =
      let e : n - i ≡ 0 = omega arith in
      rw e at r.1

  -- where all pass, each place does
  passes_from : (k i : ℕ) → first_refusal (tabulate check k i) ≡ 0 → (j : ℕ) → i ≤ j → j < i + k → check j ≡ 0
  unfolding tabulate
  passes_from zero i e j l u = absurd (omega arith)
  passes_from (suc k) i e j l u =
      let p = each_passes (check i) (tabulate check k (i + 1)) e in
      ⊎_elim (λ s. rw (← s) p.0) (λ lt. passes_from k (i + 1) p.1 j (omega arith) (omega arith)) (eq-or-lt_of_le l)

  pub among_passes : (n : ℕ) → first_among check n ≡ 0 → (j : ℕ) → j < n → check j ≡ 0
  among_passes n e j u = passes_from n 0 e j (omega arith) (omega arith)

  -- where one does not, the first that does not gives its number
  pub record First (n r : ℕ) : Type 0 where
    pub place : ℕ
    pub within : place < n
    pub number : check place ≡ r
    pub before : (j : ℕ) → j < place → check j ≡ 0

  passed_to : (i : ℕ) → ((j : ℕ) → j < i → check j ≡ 0) → check i ≡ 0 → (j : ℕ) → j < i + 1 → check j ≡ 0
  passed_to i b z j l =
      let m : j ≤ i = omega arith in
      ⊎_elim (λ e. rw e z) (λ lt. b j lt) (eq-or-lt_of_le m)

  found_from : (k i r : ℕ) → ((j : ℕ) → j < i → check j ≡ 0) → first_refusal (tabulate check k i) ≡ suc r → First (i + k) (suc r)
  unfolding tabulate first_refusal
  found_from zero i r b e = absurd (omega arith)
  found_from (suc k) i r b e =
      let s : i + 1 + k ≡ i + suc k = omega arith in
      ⊎_elim
      (λ p. rw s at (found_from k (i + 1) r (passed_to i b p.0) p.1))
      (λ q. record { place = i; within = omega arith; number = q; before = b })
      (this_or_rest (check i) (tabulate check k (i + 1)) r e)

  pub among_found : (n r : ℕ) → first_among check n ≡ suc r → First n (suc r)
  among_found n r e =
      let s : 0 + n ≡ n = omega arith in
      rw s at (found_from n 0 r (λ j l. absurd (omega arith)) e)
