-- Proves facts on lists that demand 3's proof cites: of all members and of some, and of numbers in a list.
use mathlib.Core.Path.{◌≡◌, sym, subst}
use mathlib.Core.Logic.{◌⊎◌, inl, inr, ◌≢◌}
use mathlib.Core.List.{List, [], ◌∷◌}
use mathlib.Core.Bool.{Bool, true, false, ◌||◌, cond}
use Prim.Native.Nat.{ℕ, zero, suc, ◌+◌, ◌<◌, ◌≤◌}
use native.Mathlib.Omega.{arith}
use native.Mathlib.Decide.{ℕ_discrete}
use lib.Arith.{lt_of_le-ne}
use lib.Dec.{T}
use Rattle.numeric.specs.Tabulate.{tabulate}
use Rattle.working_order.specs.Order.{indices}
use Rattle.tank_model.specs.Members.{All, Some, Distinct}

-- some member passes the test
abbrev pub any : {A : Type 0} → (A → Bool) → List A → Bool
any p [] = false
any p (x ∷ xs) = p x || any p xs

module _ {A : Type 0} where
  pub all_any : (xs : List A) → All (λ (x : A). Unit {0}) xs
  all_any [] = tt
  all_any (x ∷ xs) = (tt, all_any xs)

  pub all_map : (Q R : A → Type 0) → ((x : A) → Q x → R x) → (xs : List A) → All Q xs → All R xs
  all_map Q R f [] h = tt
  all_map Q R f (x ∷ xs) h = (f x h.0, all_map Q R f xs h.1)

  pub all_both : (Q R : A → Type 0) (xs : List A) → All Q xs → All R xs → All (λ (x : A). Q x × R x) xs
  all_both Q R [] h k = tt
  all_both Q R (x ∷ xs) h k = ((h.0, k.0), all_both Q R xs h.1 k.1)

  -- a test over a list, and the statement
  pub any→Some : (p : A → Bool) (Q : A → Type 0) → ((x : A) → T (p x) → Q x) → (xs : List A) → T (any p xs) → Some Q xs
  any→Some p Q f [] t = t
  any→Some p Q f (x ∷ xs) t = go (p x) (f x) t (λ u. any→Some p Q f xs u)
    where
      go : (b : Bool) → (T b → Q x) → T (b || any p xs) → (T (any p xs) → Some Q xs) → Q x ⊎ Some Q xs
      go true g u r = inl (g tt)
      go false g u r = inr (r u)

  pub Some→any : (p : A → Bool) (Q : A → Type 0) → ((x : A) → Q x → T (p x)) → (xs : List A) → Some Q xs → T (any p xs)
  Some→any p Q f [] t = t
  Some→any p Q f (x ∷ xs) (inl q) = go (p x) (f x q)
    where
      go : (b : Bool) → T b → T (b || any p xs)
      go true t = tt
      go false t = absurd t
  Some→any p Q f (x ∷ xs) (inr q) = go (p x) (Some→any p Q f xs q)
    where
      go : (b : Bool) → T (any p xs) → T (b || any p xs)
      go true t = tt
      go false t = t

-- what both sides of a test have, it has
pub by_cond : {A : Type 0} (Q : A → Type 0) (b : Bool) {x y : A} → Q x → Q y → Q (cond b x y)
by_cond Q true p q = p
by_cond Q false p q = q

-- ---- numbers in a list

abbrev pub In : ℕ → List ℕ → Type 0
In x ys = Some (λ (y : ℕ). x ≡ y) ys

abbrev pub NotIn : ℕ → List ℕ → Type 0
NotIn x ys = All (λ (y : ℕ). x ≢ y) ys

pub in_all : (Q : ℕ → Type 0) (x : ℕ) (ys : List ℕ) → In x ys → All Q ys → Q x
in_all Q x [] i h = absurd i
in_all Q x (y ∷ ys) (inl e) h = subst Q (sym e) h.0
in_all Q x (y ∷ ys) (inr i) h = in_all Q x ys i h.1

-- ---- the numbers from i on

numbers_from : (i k n : ℕ) → k ≤ i → All (λ (y : ℕ). k ≤ y) (tabulate (λ (x : ℕ). x) n i)
unfolding tabulate
numbers_from i k zero h = tt
numbers_from i k (suc n) h = (h, numbers_from (i + 1) k n (omega arith))

numbers_below : (i n m : ℕ) → i + n ≤ m → All (λ (y : ℕ). y < m) (tabulate (λ (x : ℕ). x) n i)
unfolding tabulate
numbers_below i zero m h = tt
numbers_below i (suc n) m h = (omega arith, numbers_below (i + 1) n m (omega arith))

-- each number after the first is above it
pub numbers_above : (i n : ℕ) → All (λ (y : ℕ). suc i ≤ y) (tabulate (λ (x : ℕ). x) n (i + 1))
numbers_above i n = numbers_from (i + 1) (suc i) n (omega arith)

pub numbers_distinct : (i n : ℕ) → Distinct (tabulate (λ (x : ℕ). x) n i)
unfolding tabulate
numbers_distinct i zero = tt
numbers_distinct i (suc n) = (all_map (λ (y : ℕ). suc i ≤ y) (λ (y : ℕ). i ≢ y) (λ y h. omega arith) (tabulate (λ (x : ℕ). x) n (i + 1)) (numbers_above i n), numbers_distinct (i + 1) n)

pub indices_below : (n m : ℕ) → n ≤ m → All (λ (y : ℕ). y < m) (indices n)
indices_below n m h = numbers_below 0 n m (omega arith)

in_numbers : (i n h : ℕ) → i ≤ h → h < i + n → In h (tabulate (λ (x : ℕ). x) n i)
unfolding tabulate
in_numbers i zero h l k = absurd (omega arith)
in_numbers i (suc n) h l k = go (ℕ_discrete h i) (λ l' k'. in_numbers (i + 1) n h l' k')
  where
    go : Dec (h ≡ i) → (i + 1 ≤ h → h < i + 1 + n → In h (tabulate (λ (x : ℕ). x) n (i + 1))) → In h (i ∷ tabulate (λ (x : ℕ). x) n (i + 1))
    go (yes e) r = inl e
    go (no d) r = let g : suc i ≤ h = lt_of_le-ne l (λ e. d (sym e)) in inr (r (omega arith) (omega arith))

pub in_indices : (n h : ℕ) → h < n → In h (indices n)
in_indices n h l = in_numbers 0 n h (omega arith) (omega arith)
