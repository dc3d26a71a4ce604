-- Proves that the order of work has each heater once and nothing else, each worked before the next (01, Tank).
use mathlib.Core.Path.{◌≡◌, sym, subst, ap, ◌∙◌}
use mathlib.Core.Logic.{◌⊎◌, inl, inr, ◌≢◌}
use mathlib.Core.List.{List, [], ◌∷◌}
use mathlib.Core.Bool.{Bool, true, false, not, cond}
use Prim.Native.Nat.{ℕ, zero, suc, ◌+◌, ◌<◌, ◌≤◌}
use native.Mathlib.Omega.{arith}
use lib.Dec.{T}
use lib.ListN.{length, get_or, take}
use lib.Seq.{take_at}
use Rattle.std.proofs.lemmas.List.{get_or-take, length-take-le}
use lib.Ieee.{le}
use Rattle.numeric.specs.Tabulate.{tabulate, tabulate_same, length_tabulate, at_tabulate}
use Rattle.working_order.specs.Order.{indices, insert, insertion_sort, comes_before, rising_order}
use Rattle.working_order.proofs.Entries.{rising_length}
use Rattle.tank_model.specs.declared.Heater.{Heater}
use Rattle.tank_model.specs.declared.TankDesign.{TankDesign}
use Rattle.tank_model.specs.Fixed.{Placed, Fixed, placed, no_heater, not_placed, placed_heaters, heater_of, fixed_of}
use Rattle.tank_model.specs.Order.{working_order, InOrder}
use Rattle.tank_model.specs.Members.{All, Distinct, ChainFrom, Chain}
use Rattle.tank_model.specs.Arguments.{position_of, WorkedBefore, InWorkingOrder}
use Rattle.tank_model.proofs.Members.{by_cond, In, numbers_above, numbers_distinct, indices_below, in_indices}

-- ---- insertion sort, for any test

module _ (before : ℕ → ℕ → Bool) where
  insert_all : (Q : ℕ → Type 0) (x : ℕ) (xs : List ℕ) → Q x → All Q xs → All Q (insert before x xs)
  unfolding insert
  insert_all Q x [] q h = (q, tt)
  insert_all Q x (y ∷ ys) q h = by_cond (λ (l : List ℕ). All Q l) (before x y) (q, h) (h.0, insert_all Q x ys q h.1)

  pub sort_all : (Q : ℕ → Type 0) (xs : List ℕ) → All Q xs → All Q (insertion_sort before xs)
  unfolding insertion_sort
  sort_all Q [] h = tt
  sort_all Q (x ∷ xs) h = insert_all Q x (insertion_sort before xs) h.0 (sort_all Q xs h.1)

  insert_distinct : (x : ℕ) (xs : List ℕ) → All (λ (y : ℕ). x ≢ y) xs → Distinct xs → Distinct (insert before x xs)
  unfolding insert
  insert_distinct x [] q h = (tt, tt)
  insert_distinct x (y ∷ ys) q h = by_cond Distinct (before x y) (q, h) (insert_all (λ (z : ℕ). y ≢ z) x ys (λ e. q.0 (sym e)) h.0, insert_distinct x ys q.1 h.1)

  sort_distinct : (xs : List ℕ) → Distinct xs → Distinct (insertion_sort before xs)
  unfolding insertion_sort
  sort_distinct [] h = tt
  sort_distinct (x ∷ xs) h = insert_distinct x (insertion_sort before xs) (sort_all (λ (y : ℕ). x ≢ y) xs h.0) (sort_distinct xs h.1)

  pub sorted_once : (n : ℕ) → Distinct (insertion_sort before (indices n))
  sorted_once n = sort_distinct (indices n) (numbers_distinct 0 n)

  in_insert : (h x : ℕ) (xs : List ℕ) → In h (x ∷ xs) → In h (insert before x xs)
  unfolding insert
  in_insert h x [] i = i
  in_insert h x (y ∷ ys) i = by_cond (λ (l : List ℕ). In h l) (before x y) i (later i (λ k. in_insert h x ys k))
    where
      later : In h (x ∷ y ∷ ys) → (In h (x ∷ ys) → In h (insert before x ys)) → In h (y ∷ insert before x ys)
      later (inl e) r = inr (r (inl e))
      later (inr (inl e)) r = inl e
      later (inr (inr k)) r = inr (r (inr k))

  in_sort : (h : ℕ) (xs : List ℕ) → In h xs → In h (insertion_sort before xs)
  unfolding insertion_sort
  in_sort h [] i = i
  in_sort h (x ∷ xs) (inl e) = in_insert h x (insertion_sort before xs) (inl e)
  in_sort h (x ∷ xs) (inr i) = in_insert h x (insertion_sort before xs) (inr (in_sort h xs i))

  pub sorted_each : (n h : ℕ) → h < n → In h (insertion_sort before (indices n))
  sorted_each n h l = in_sort h (indices n) (in_indices n h l)

  -- i is worked before j: it is given earlier and passes the test, or it is given later and j does not
  abbrev pub Ahead : ℕ → ℕ → Type 0
  Ahead i j = ((i < j) × T (before i j)) ⊎ ((j < i) × T (not (before j i)))

  insert_from : (z x : ℕ) (ys : List ℕ) → Ahead z x → ChainFrom Ahead z ys → All (λ (y : ℕ). suc x ≤ y) ys → ChainFrom Ahead z (insert before x ys)
  unfolding insert
  insert_from z x [] r f l = (r, tt)
  insert_from z x (y ∷ ys) r f l = go (before x y) (λ t. inl (l.0, t)) (λ t. inr (l.0, t)) (λ q. insert_from y x ys q f.1 l.1)
    where
      go : (b : Bool) → (T b → Ahead x y) → (T (not b) → Ahead y x) → (Ahead y x → ChainFrom Ahead y (insert before x ys)) → ChainFrom Ahead z (cond b (x ∷ y ∷ ys) (y ∷ insert before x ys))
      go true p q k = (r, (p tt, f.1))
      go false p q k = (f.0, k (q tt))

  insert_chain : (x : ℕ) (ys : List ℕ) → Chain Ahead ys → All (λ (y : ℕ). suc x ≤ y) ys → Chain Ahead (insert before x ys)
  unfolding insert
  insert_chain x [] f l = tt
  insert_chain x (y ∷ ys) f l = go (before x y) (λ t. inl (l.0, t)) (λ t. insert_from y x ys (inr (l.0, t)) f l.1)
    where
      go : (b : Bool) → (T b → Ahead x y) → (T (not b) → ChainFrom Ahead y (insert before x ys)) → Chain Ahead (cond b (x ∷ y ∷ ys) (y ∷ insert before x ys))
      go true p q = (p tt, f)
      go false p q = q tt

  pub sorted_chain : (i n : ℕ) → Chain Ahead (insertion_sort before (tabulate (λ (x : ℕ). x) n i))
  unfolding insertion_sort tabulate
  sorted_chain i zero = tt
  sorted_chain i (suc n) =
      let later = tabulate (λ (x : ℕ). x) n (i + 1) in
      insert_chain i (insertion_sort before later) (sorted_chain (i + 1) n) (sort_all (λ (y : ℕ). suc i ≤ y) later (numbers_above i n))

chain_from_map : (D : ℕ → Type 0) (R S : ℕ → ℕ → Type 0) → ((x y : ℕ) → D x → D y → R x y → S x y) → (z : ℕ) (ys : List ℕ) → D z → All D ys → ChainFrom R z ys → ChainFrom S z ys
chain_from_map D R S g z [] d ds f = tt
chain_from_map D R S g z (y ∷ ys) d ds f = (g z y d ds.0 f.0, chain_from_map D R S g y ys ds.0 ds.1 f.1)

chain_map : (D : ℕ → Type 0) (R S : ℕ → ℕ → Type 0) → ((x y : ℕ) → D x → D y → R x y → S x y) → (ys : List ℕ) → All D ys → Chain R ys → Chain S ys
chain_map D R S g [] ds f = tt
chain_map D R S g (y ∷ ys) ds f = chain_from_map D R S g y ys ds.0 ds.1 f

-- ---- the heaters of an array

pub many_placed : (n : ℕ) (fitted : List Heater) → length (placed_heaters n fitted) ≡ n
unfolding placed_heaters
many_placed n fitted = length_tabulate (λ (h : ℕ). placed (get_or fitted h no_heater)) n 0

pub placed_at : (n : ℕ) (fitted : List Heater) (h : ℕ) → h < n → get_or (placed_heaters n fitted) h not_placed ≡ placed (get_or fitted h no_heater)
unfolding placed_heaters
placed_at n fitted h l = at_tabulate (λ (k : ℕ). placed (get_or fitted k no_heater)) n h not_placed l

-- the first n heaters of an array are all those of the slice that is cut from it
pub taken_heaters : (n : ℕ) (fitted : List Heater) → n ≤ length fitted → placed_heaters (length (take n fitted)) (take n fitted) ≡ placed_heaters n fitted
unfolding placed_heaters
taken_heaters n fitted few =
    rw (length-take-le n fitted few)
    (tabulate_same (λ (h : ℕ). placed (get_or (take n fitted) h no_heater)) (λ (h : ℕ). placed (get_or fitted h no_heater)) n 0
    (λ h l u. ap placed (get_or-take n fitted h no_heater (omega arith))))

-- those that make was given
pub heater_is : (m : TankDesign) (h : ℕ) → h < m.heaters → heater_of (fixed_of m) h ≡ placed (get_or m.fitted h no_heater)
heater_is m h l = placed_at m.heaters m.fitted h l

pub heaters_many : (m : TankDesign) → length (fixed_of m).heaters ≡ m.heaters
heaters_many m = many_placed m.heaters m.fitted

-- ---- the order of work

pub order_below : (f : Fixed) → All (λ (h : ℕ). h < length f.heaters) (working_order f)
unfolding working_order rising_order
order_below f = sort_all _ (λ (h : ℕ). h < length f.heaters) (indices (length f.heaters)) (indices_below (length f.heaters) (length f.heaters) (omega arith))

pub order_once : (f : Fixed) → Distinct (working_order f)
unfolding working_order rising_order
order_once f = sorted_once _ (length f.heaters)

pub in_working_order : (m : TankDesign) → InWorkingOrder m (working_order (fixed_of m))
unfolding working_order rising_order
in_working_order m = rw (heaters_many m) (record {
  each = λ h l. sorted_each before m.heaters h l;
  only = only;
  once = sorted_once before m.heaters;
  chain = chain_map (λ (h : ℕ). h < m.heaters) (Ahead before) (WorkedBefore m) said (insertion_sort before (indices m.heaters)) only (sorted_chain before 0 m.heaters);
})
  where
    before : ℕ → ℕ → Bool
    before = comes_before (λ (h : ℕ). (heater_of (fixed_of m) h).position)

    only : All (λ (h : ℕ). h < m.heaters) (insertion_sort before (indices m.heaters))
    only = sort_all before (λ (h : ℕ). h < m.heaters) (indices m.heaters) (indices_below m.heaters m.heaters (omega arith))

    compared : (x y : ℕ) → x < m.heaters → y < m.heaters → before x y ≡ le (position_of m x) (position_of m y)
    compared x y k l = rw (heater_is m x k, heater_is m y l)

    said : (x y : ℕ) → x < m.heaters → y < m.heaters → Ahead before x y → WorkedBefore m x y
    said x y k l (inl p) = inl (p.0, subst T (compared x y k l) p.1)
    said x y k l (inr p) = inr (p.0, subst (λ (b : Bool). T (not b)) (compared y x l k) p.1)

-- ---- the order of work that stands in an array

pub first_in_order : (n : ℕ) (fitted : List Heater) (order : List ℕ) (f : Fixed) → InOrder n fitted order → f.heaters ≡ placed_heaters n fitted → take n order ≡ working_order f
unfolding working_order
first_in_order n fitted order f o e =
    let many : length f.heaters ≡ n = ap (λ (hs : List Placed). length hs) e ∙ many_placed n fitted in
    let long = rising_length (λ (h : ℕ). (heater_of f h).position) (length f.heaters) ∙ many in
    rw (o f e) (take_at (working_order f) _ n long)

-- the same, where the order is that of the slice of the first n heaters
pub first_in_taken : (n : ℕ) (fitted : List Heater) (order : List ℕ) (f : Fixed) → n ≤ length fitted → InOrder (length (take n fitted)) (take n fitted) order
    → f.heaters ≡ placed_heaters n fitted → take n order ≡ working_order f
first_in_taken n fitted order f few o e =
    rw (length-take-le n fitted few) at (first_in_order (length (take n fitted)) (take n fitted) order f o (e ∙ sym (taken_heaters n fitted few)))
