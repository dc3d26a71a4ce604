-- Proves that a list in which each number stands before the next is the only such list of its members, where 'stands before' goes through and never holds both
-- ways; and that an insertion sort by a test that goes through, and lets one of two come first, leaves such a list (02, R-3).
use mathlib.Core.Path.{◌≡◌, refl, sym, ap, subst}
use mathlib.Core.Logic.{◌⊎◌, inl, inr, ⊎_elim}
use mathlib.Core.List.{List, [], ◌∷◌, map}
use mathlib.Core.Bool.{Bool, true, false, not}
use Prim.Native.Nat.{ℕ, zero, suc, ◌≤◌, ◌<◌}
use native.Mathlib.Omega.{arith}
use lib.Arith.{lt_of_le-ne}
use lib.Dec.{T, ltb, ltb→lt, nltb→le}
use lib.ListN.{length, get_or}
use Rattle.tank_model.specs.Members.{All, ChainFrom, Chain}
use Rattle.tank_model.proofs.Members.{all_map, all_both, In, in_all}
use Rattle.tank_model.proofs.Sentences.{not_both}
use Rattle.tank_model.proofs.Order.{Ahead}

-- ---- one list of its members

-- what stands before the next stands before all that follow
chain_all : (D : ℕ → Type 0) (R : ℕ → ℕ → Type 0) → ((x y z : ℕ) → D x → D y → D z → R x y → R y z → R x z)
    → (x : ℕ) (ys : List ℕ) → D x → All D ys → ChainFrom R x ys → All (R x) ys
chain_all D R through x [] d ds f = tt
chain_all D R through x (y ∷ ys) d ds f =
    (f.0, all_map (λ (z : ℕ). D z × R y z) (R x) (λ z p. through x y z d ds.0 p.0 f.0 p.1) ys (all_both D (R y) ys ds.1 (chain_all D R through y ys ds.0 ds.1 f.1)))

chain_rest : (R : ℕ → ℕ → Type 0) (x : ℕ) (ys : List ℕ) → ChainFrom R x ys → Chain R ys
chain_rest R x [] f = tt
chain_rest R x (y ∷ ys) f = f.1

pub all_at : (P : ℕ → Type 0) (xs : List ℕ) → All P xs → (i : ℕ) → i < length xs → P (get_or xs i 0)
all_at P [] a i l = absurd (omega arith)
all_at P (x ∷ xs) a zero l = a.0
all_at P (x ∷ xs) a (suc i) l = all_at P xs a.1 i (omega arith)

module _ (D : ℕ → Type 0) (R : ℕ → ℕ → Type 0) (through : (x y z : ℕ) → D x → D y → D z → R x y → R y z → R x z) (one_way : (x y : ℕ) → R x y → R y x → ⊥) where
  heads : (x y : ℕ) (xs ys : List ℕ) → All (R x) xs → All (R y) ys → In x (y ∷ ys) → In y (x ∷ xs) → x ≡ y
  heads x y xs ys a b (inl e) j = e
  heads x y xs ys a b (inr i) (inl e) = sym e
  heads x y xs ys a b (inr i) (inr j) = absurd (one_way x y (in_all (R x) y xs j a) (in_all (R y) x ys i b))

  rests : (x : ℕ) (xs ys : List ℕ) → All (R x) xs → ((h : ℕ) → In h (x ∷ xs) → In h (x ∷ ys)) → (h : ℕ) → In h xs → In h ys
  rests x xs ys a s h i = go (s h (inr i))
    where
      go : In h (x ∷ ys) → In h ys
      go (inl e) = let q = subst (R x) e (in_all (R x) h xs i a) in absurd (one_way x x q q)
      go (inr j) = j

  pub only_list : (xs ys : List ℕ) → All D xs → All D ys → Chain R xs → Chain R ys → ((h : ℕ) → In h xs → In h ys) → ((h : ℕ) → In h ys → In h xs) → xs ≡ ys
  only_list [] [] a b f g s t = refl
  only_list [] (y ∷ ys) a b f g s t = absurd (t y (inl refl))
  only_list (x ∷ xs) [] a b f g s t = absurd (s x (inl refl))
  only_list (x ∷ xs) (y ∷ ys) a b f g s t =
      let p = chain_all D R through x xs a.0 a.1 f in
      let q = chain_all D R through y ys b.0 b.1 g in
      let e = heads x y xs ys p q (s x (inl refl)) (t y (inl refl)) in
      let s' = rests x xs ys p (λ h i. subst (λ (z : ℕ). In h (z ∷ ys)) (sym e) (s h i)) in
      let t' = rests y ys xs q (λ h i. subst (λ (z : ℕ). In h (z ∷ xs)) e (t h i)) in
      let r = only_list xs ys a.1 b.1 (chain_rest R x xs f) (chain_rest R y ys g) s' t' in
      λ i. e i ∷ r i

-- each stands before all that come after it, place by place
pub chain_places : (D : ℕ → Type 0) (R : ℕ → ℕ → Type 0) → ((x y z : ℕ) → D x → D y → D z → R x y → R y z → R x z)
    → (xs : List ℕ) → All D xs → Chain R xs → (i j : ℕ) → i < j → j < length xs → R (get_or xs i 0) (get_or xs j 0)
chain_places D R through [] a f i j l m = absurd (omega arith)
chain_places D R through (x ∷ xs) a f i zero l m = absurd (omega arith)
chain_places D R through (x ∷ xs) a f zero (suc j) l m = all_at (R x) xs (chain_all D R through x xs a.0 a.1 f) j (omega arith)
chain_places D R through (x ∷ xs) a f (suc i) (suc j) l m = chain_places D R through xs a.1 (chain_rest R x xs f) i j (omega arith) (omega arith)

-- what holds of each number and the next holds of what they are renamed to
chain_from_renamed : (D : ℕ → Type 0) (R S : ℕ → ℕ → Type 0) (to : ℕ → ℕ) → ((x y : ℕ) → D x → D y → R x y → S (to x) (to y))
    → (z : ℕ) (ys : List ℕ) → D z → All D ys → ChainFrom R z ys → ChainFrom S (to z) (map to ys)
chain_from_renamed D R S to g z [] d ds f = tt
chain_from_renamed D R S to g z (y ∷ ys) d ds f = (g z y d ds.0 f.0, chain_from_renamed D R S to g y ys ds.0 ds.1 f.1)

pub chain_renamed : (D : ℕ → Type 0) (R S : ℕ → ℕ → Type 0) (to : ℕ → ℕ) → ((x y : ℕ) → D x → D y → R x y → S (to x) (to y))
    → (ys : List ℕ) → All D ys → Chain R ys → Chain S (map to ys)
chain_renamed D R S to g [] ds f = tt
chain_renamed D R S to g (y ∷ ys) ds f = chain_from_renamed D R S to g y ys ds.0 ds.1 f

pub in_renamed : (to : ℕ → ℕ) (h : ℕ) (xs : List ℕ) → In h xs → In (to h) (map to xs)
in_renamed to h [] i = i
in_renamed to h (x ∷ xs) (inl e) = inl (ap to e)
in_renamed to h (x ∷ xs) (inr i) = inr (in_renamed to h xs i)

pub all_renamed : (D E : ℕ → Type 0) (to : ℕ → ℕ) → ((h : ℕ) → D h → E (to h)) → (xs : List ℕ) → All D xs → All E (map to xs)
all_renamed D E to g [] a = tt
all_renamed D E to g (x ∷ xs) a = (g x a.0, all_renamed D E to g xs a.1)

-- ---- by a test that goes through, and lets one of two come first

decided : (b : Bool) → T b ⊎ T (not b)
decided true = inl tt
decided false = inr tt

earlier_or_not : (x z : ℕ) → (x < z) ⊎ (z ≤ x)
earlier_or_not x z = ⊎_elim (λ t. inl (ltb→lt x z t)) (λ t. inr (nltb→le x z t)) (decided (ltb x z))

-- x is ahead of z: by their places, and by the test of each case
pub by_place : (before : ℕ → ℕ → Bool) (x z : ℕ) → (x ≡ z → ⊥) → (x < z → T (before x z)) → (z < x → T (before z x) → ⊥) → Ahead before x z
by_place before x z n f g = go (earlier_or_not x z)
  where
    go : (x < z) ⊎ (z ≤ x) → Ahead before x z
    go (inl l) = inl (l, f l)
    go (inr l) = let m : z < x = lt_of_le-ne l (λ e. n (sym e)) in ⊎_elim (λ t. absurd (g m t)) (λ t. inr (m, t)) (decided (before z x))

pub ahead_apart : (before : ℕ → ℕ → Bool) (x y : ℕ) → Ahead before x y → x ≡ y → ⊥
ahead_apart before x y (inl p) e = omega arith
ahead_apart before x y (inr p) e = omega arith

module _ (before : ℕ → ℕ → Bool) (D : ℕ → Type 0)
    (through : (x y z : ℕ) → D x → D y → D z → T (before x y) → T (before y z) → T (before x z))
    (either : (x y : ℕ) → D x → D y → T (before x y) ⊎ T (before y x)) where
  -- where y does not come first, x does
  pub other : (x y : ℕ) → D x → D y → T (not (before y x)) → T (before x y)
  other x y d e n = ⊎_elim (λ t. t) (λ t. absurd (not_both (before y x) t n)) (either x y d e)

  pub ahead_one_way : (x y : ℕ) → Ahead before x y → Ahead before y x → ⊥
  ahead_one_way x y (inl p) (inl q) = omega arith
  ahead_one_way x y (inl p) (inr q) = not_both (before x y) p.1 q.1
  ahead_one_way x y (inr p) (inl q) = not_both (before y x) q.1 p.1
  ahead_one_way x y (inr p) (inr q) = omega arith

  pub ahead_through : (x y z : ℕ) → D x → D y → D z → Ahead before x y → Ahead before y z → Ahead before x z
  ahead_through x y z a b c (inl p) (inl q) = inl (omega arith, through x y z a b c p.1 q.1)
  ahead_through x y z a b c (inl p) (inr q) =
      by_place before x z (λ e. not_both (before z y) (subst (λ (k : ℕ). T (before k y)) e p.1) q.1)
      (λ l. through x y z a b c p.1 (other y z b c q.1))
      (λ l t. not_both (before z y) (through z x y c a b t p.1) q.1)
  ahead_through x y z a b c (inr p) (inl q) =
      by_place before x z (λ e. not_both (before y x) (subst (λ (k : ℕ). T (before y k)) (sym e) q.1) p.1)
      (λ l. through x y z a b c (other x y a b p.1) q.1)
      (λ l t. not_both (before y x) (through y z x b c a q.1 t) p.1)
  ahead_through x y z a b c (inr p) (inr q) =
      by_place before x z (λ e. omega arith) (λ l. absurd (omega arith))
      (λ l t. not_both (before z y) (through z x y c a b t (other x y a b p.1)) q.1)
