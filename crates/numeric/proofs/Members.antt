-- Proves which terms of a Sum2 bear on it (01, Arithmetic underneath, and Mix: 'terms outside the group times 0'). A zero of either sign changes neither s nor
-- c, so a Sum2 over all layers is the Sum2 over a group's alone. Overflow does no harm: where s overflows, c is not a number from then on, and a zero leaves
-- both.
use mathlib.Core.Path.{◌≡◌, refl, sym, ap, ◌∙◌, subst}
use mathlib.Core.Logic.{◌⊎◌, ⊎_elim, inl, inr}
use mathlib.Core.Bool.{Bool, true, false, not}
use Prim.Native.Nat.{ℕ, zero, suc, ◌+◌, ◌-◌, ◌≤◌, ◌<◌}
use native.Mathlib.Nat.{zero-add, eq-or-lt_of_le}
use native.Mathlib.Omega.{arith}
use lib.IntN.{ℤ}
use lib.Dec.{T}
use lib.Ieee.{Float, nan, inf, fin, binary64, add, sub, mul, neg, fits, of_bits}
use lib.Ieee.Fits.{add-fits}
use lib.Ieee.Scale.{finite}
use Rattle.numeric.specs.declared.sum2.Accumulator.{Accumulator}
use Rattle.numeric.specs.Double.{◌⊕◌, ◌⊖◌, ◌⊛◌, zero_f, one_f}
use Rattle.numeric.specs.Iterate.{iterate, iterate_split}
use Rattle.numeric.specs.Zeros.{signed_zero, IsZero, SameValue}
use Rattle.numeric.specs.Sum2.{nothing_added, accumulate, add_at}
use Rattle.numeric.proofs.Difference.{minus_self}
use Rattle.numeric.proofs.Zeros.{is_minus_zero, zero_written, plus_zero, zero_plus, times_one, add_not_minus}
use Rattle.numeric.proofs.Finite.{sum_parts_finite}
use Rattle.numeric.proofs.SameValue.{zero_product_right}

-- what adding b to s loses, where x is their rounded sum
abbrev lost : Float → Float → Float → Float
lost s b x = (s ⊖ (x ⊖ (x ⊖ s))) ⊕ (b ⊖ (x ⊖ s))

-- ---- a term times 0, and times 1
pub finite_times_zero : (x : Float) → T (finite x) → IsZero (x ⊛ zero_f)
unfolding of_bits
finite_times_zero x h = zero_product_right x (signed_zero false) h (false, refl)

pub fits_times_one : (x : Float) → T (fits binary64 x) → x ⊛ one_f ≡ x
unfolding mul of_bits
fits_times_one nan p = refl
fits_times_one (inf true) p = refl
fits_times_one (inf false) p = refl
fits_times_one (fin s m e) p = times_one binary64 s m e p

-- ---- what a Sum2 keeps: s is finite and neither s nor c is -0; or s is not finite, and c is not a number
abbrev Settled : Float → Type 0
Settled x = T (fits binary64 x) × T (not (is_minus_zero x))

abbrev StableAt : Float → Float → Type 0
StableAt nan c = c ≡ nan
StableAt (inf t) c = c ≡ nan
StableAt (fin t m e) c = Settled (fin t m e) × Settled c

abbrev pub Stable : Accumulator → Type 0
Stable a = StableAt a.s a.c

pub stable_start : Stable nothing_added
unfolding of_bits fits
stable_start = ((tt, tt), (tt, tt))

-- ---- a term that is zero
plus_nothing : (c : Float) → Settled c → c ⊕ zero_f ≡ c
unfolding add of_bits
plus_nothing nan h = refl
plus_nothing (inf t) h = refl
plus_nothing (fin t m e) h = plus_zero binary64 t m e false h.0 h.1

less_nothing : (s : Bool) (m : ℕ) (e : ℤ) → Settled (fin s m e) → fin s m e ⊖ zero_f ≡ fin s m e
unfolding sub neg of_bits
less_nothing s m e h = plus_zero binary64 s m e true h.0 h.1

zero_plus_f : (t : Bool) (n : ℕ) (g : ℤ) → Settled (fin t n g) → zero_f ⊕ fin t n g ≡ fin t n g
unfolding of_bits
zero_plus_f t n g h = zero_plus binary64 t n g h.0 h.1

lost_zero : (t : Bool) → zero_f ⊕ (signed_zero t ⊖ zero_f) ≡ zero_f
unfolding add sub neg of_bits
lost_zero true = refl
lost_zero false = refl

lost_nothing : (s : Bool) (m : ℕ) (e : ℤ) (t : Bool) → Settled (fin s m e) → lost (fin s m e) (signed_zero t) (fin s m e) ≡ zero_f
lost_nothing s m e t h = rw (minus_self (fin s m e) refl, less_nothing s m e h, minus_self (fin s m e) refl) (lost_zero t)

zero_term_at : (t : Bool) (s c : Float) → StableAt s c → accumulate (record { s = s; c = c }) (signed_zero t) ≡ record { s = s; c = c }
unfolding accumulate
zero_term_at t nan c h = rw h (unfold add in refl)
zero_term_at t (inf b) c h = rw h (unfold add in refl)
zero_term_at t (fin b m e) c h = rw (plus_zero binary64 b m e t h.0.0 h.0.1, lost_nothing b m e t h.0, plus_nothing c h.1)

pub zero_term : (a : Accumulator) (b : Float) → Stable a → IsZero b → accumulate a b ≡ a
zero_term a b h z = rw z.1 (zero_term_at z.0 a.s a.c h)

-- ---- a term of any value
nan_right : (x : Float) → x ⊕ nan ≡ nan
unfolding add
nan_right nan = refl
nan_right (inf t) = refl
nan_right (fin t m e) = refl

nan_left : (x : Float) → nan ⊕ x ≡ nan
unfolding add
nan_left x = refl

lost_nan : (s b : Float) → lost s b nan ≡ nan
unfolding add sub neg
lost_nan nan b = refl
lost_nan (inf t) b = refl
lost_nan (fin t m e) b = refl

lost_over : (t s : Bool) (m : ℕ) (e : ℤ) (b : Float) → lost (fin s m e) b (inf t) ≡ nan
unfolding add sub neg
lost_over true s m e b = refl
lost_over false s m e b = refl

-- with c not a number, whatever s becomes, as long as it is not finite
not_finite : (x c : Float) → (T (finite x) → ⊥) → c ≡ nan → StableAt x c
not_finite nan c n h = h
not_finite (inf t) c n h = h
not_finite (fin t m e) c n h = absurd (n tt)

module _ (b : Float) (p : T (fits binary64 b)) where
  -- s was finite, and x is s + b
  from_finite : (s : Bool) (m : ℕ) (e : ℤ) (c : Float) → Settled (fin s m e) → Settled c → (x : Float) → fin s m e ⊕ b ≡ x → StableAt x (c ⊕ lost (fin s m e) b x)
  from_finite s m e c h k nan w = ap (λ (z : Float). c ⊕ z) (lost_nan (fin s m e) b) ∙ nan_right c
  from_finite s m e c h k (inf u) w = ap (λ (z : Float). c ⊕ z) (lost_over u s m e b) ∙ nan_right c
  from_finite s m e c h k (fin u i j) w = (
    (subst (λ (z : Float). T (fits binary64 z)) w (add-fits binary64 (fin s m e) b), subst (λ (z : Float). T (not (is_minus_zero z))) w (add_not_minus binary64 (fin s m e) b h.0 p h.1)),
    (add-fits binary64 c (lost (fin s m e) b (fin u i j)), add_not_minus binary64 c (lost (fin s m e) b (fin u i j)) k.0 (add-fits binary64 (fin s m e ⊖ (fin u i j ⊖ (fin u i j ⊖ fin s m e))) (b ⊖ (fin u i j ⊖ fin s m e))) k.1),
  )

  stable_at : (s c : Float) → StableAt s c → Stable (accumulate (record { s = s; c = c }) b)
  unfolding accumulate
  stable_at nan c h = not_finite (nan ⊕ b) _ (λ f. (sum_parts_finite nan b f).0) (rw h (nan_left _))
  stable_at (inf t) c h = not_finite (inf t ⊕ b) _ (λ f. (sum_parts_finite (inf t) b f).0) (rw h (nan_left _))
  stable_at (fin s m e) c h = from_finite s m e c h.0 h.1 (fin s m e ⊕ b) refl

  pub stable_term : (a : Accumulator) → Stable a → Stable (accumulate a b)
  stable_term a h = stable_at a.s a.c h

-- a term may be either of two that are the same but for the sign of a zero
pub same_term : (a : Accumulator) (b c : Float) → Stable a → SameValue b c → accumulate a b ≡ accumulate a c
same_term a b c h (inl e) = rw e
same_term a b c h (inr z) = zero_term a b h z.0 ∙ sym (zero_term a c h z.1)

-- ---- the same for k terms from i on
abbrev pub Among : ℕ → ℕ → ℕ → Type 0
Among i k j = (i ≤ j) × (j < i + k)

pub term_finite : (a : Accumulator) (b : Float) → T (finite (accumulate a b).s) → T (finite a.s) × T (finite b)
unfolding accumulate
term_finite a b h = sum_parts_finite a.s b h

module _ (g : ℕ → Float) where
  zero_terms : (k i : ℕ) (a : Accumulator) → Stable a → ((j : ℕ) → Among i k j → IsZero (g j)) → iterate (add_at g) k i a ≡ a
  unfolding iterate
  zero_terms zero i a h z = refl
  zero_terms (suc k) i a h z = rw (zero_term a (g i) h (z i (omega arith, omega arith))) (zero_terms k (i + 1) a h (λ j w. z j (omega arith, omega arith)))

  pub stable_terms : (k i : ℕ) (a : Accumulator) → Stable a → ((j : ℕ) → Among i k j → T (fits binary64 (g j))) → Stable (iterate (add_at g) k i a)
  unfolding iterate
  stable_terms zero i a h f = h
  stable_terms (suc k) i a h f = stable_terms k (i + 1) (accumulate a (g i)) (stable_term (g i) (f i (omega arith, omega arith)) a h) (λ j w. f j (omega arith, omega arith))

  -- a finite s answers for each term
  terms_finite : (k i : ℕ) (a : Accumulator) → T (finite (iterate (add_at g) k i a).s) → T (finite a.s) × ((j : ℕ) → Among i k j → T (finite (g j)))
  unfolding iterate
  terms_finite zero i a h = (h, λ j w. absurd (omega arith))
  terms_finite (suc k) i a h =
      let rest = terms_finite k (i + 1) (accumulate a (g i)) h in
      let here = term_finite a (g i) rest.0 in
      (here.0, λ j w. ⊎_elim (λ e. rw (← e) here.1) (λ l. rest.1 j (omega arith, omega arith)) (eq-or-lt_of_le w.0))

  pub members_finite : (k i : ℕ) → T (finite (iterate (add_at g) k i nothing_added).s) → (j : ℕ) → Among i k j → T (finite (g j))
  members_finite k i h = (terms_finite k i nothing_added h).1

-- two Sum2 whose terms are the same but for the signs of zeros
module _ (g h : ℕ → Float) where
  same_terms : (k i : ℕ) (a : Accumulator) → Stable a → ((j : ℕ) → Among i k j → SameValue (g j) (h j) × T (fits binary64 (h j))) → iterate (add_at g) k i a ≡ iterate (add_at h) k i a
  unfolding iterate
  same_terms zero i a s e = refl
  same_terms (suc k) i a s e =
      let here = e i (omega arith, omega arith) in
      rw (same_term a (g i) (h i) s here.0) (same_terms k (i + 1) (accumulate a (h i)) (stable_term (h i) here.1 a s) (λ j w. e j (omega arith, omega arith)))

  pub same_members : (k i : ℕ) → ((j : ℕ) → Among i k j → SameValue (g j) (h j) × T (fits binary64 (h j))) → iterate (add_at g) k i nothing_added ≡ iterate (add_at h) k i nothing_added
  same_members k i e = same_terms k i nothing_added stable_start e

  -- the law: the terms from bottom to below end are those of h, and the others are zeros
  pub sum_members : (bottom end n : ℕ) → bottom ≤ end → end ≤ n → ((j : ℕ) → j < n → (j < bottom) ⊎ (end ≤ j) → IsZero (g j)) → ((j : ℕ) → bottom ≤ j → j < end → (g j ≡ h j) × T (fits binary64 (h j))) → iterate (add_at g) n 0 nothing_added ≡ iterate (add_at h) (end - bottom) bottom nothing_added
  sum_members bottom end n l u out inside =
      let m = end - bottom in
      let group = iterate (add_at h) m bottom nothing_added in
      let all : n ≡ bottom + (m + (n - end)) = omega arith in
      let up : bottom + m ≡ end = omega arith in
      let below : iterate (add_at g) bottom 0 nothing_added ≡ nothing_added = zero_terms g bottom 0 nothing_added stable_start (λ j w. out j (omega arith) (inl (omega arith))) in
      let members : iterate (add_at g) m bottom nothing_added ≡ group = same_members m bottom (λ j w. let t = inside j w.0 (omega arith) in (inl t.0, t.1)) in
      let stable : Stable group = stable_terms h m bottom nothing_added stable_start (λ j w. (inside j w.0 (omega arith)).1) in
      let above : iterate (add_at g) (n - end) end group ≡ group = zero_terms g (n - end) end group stable (λ j w. out j (omega arith) (inr w.0)) in
      ap (λ (k : ℕ). iterate (add_at g) k 0 nothing_added) all
      ∙ iterate_split (add_at g) bottom (m + (n - end)) 0 nothing_added
      ∙ rw (zero-add, below) (iterate_split (add_at g) m (n - end) bottom nothing_added ∙ rw (up, members) above)

-- ---- a Sum2 of one finite term: s is 0 + b, which is b unless that is -0, and nothing is lost
one_term_at : (t : Bool) (n : ℕ) (g : ℤ) → Settled (fin t n g) → accumulate nothing_added (fin t n g) ≡ record { s = zero_f ⊕ fin t n g; c = zero_f }
unfolding accumulate
one_term_at t n g h = rw (zero_plus_f t n g h, less_nothing t n g h, minus_self (fin t n g) refl) (unfold add sub neg of_bits in refl)

pub one_term : (b : Float) → T (fits binary64 b) → T (finite b) → accumulate nothing_added b ≡ record { s = zero_f ⊕ b; c = zero_f }
one_term nan p f = absurd f
one_term (inf t) p f = absurd f
one_term (fin true zero g) p f = rw (zero_written binary64 true g p) (unfold accumulate add sub neg of_bits in refl)
one_term (fin false zero g) p f = one_term_at false zero g (p, tt)
one_term (fin t (suc n) g) p f = one_term_at t (suc n) g (p, tt)
