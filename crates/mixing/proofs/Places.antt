-- Proves that a mixing of n layers reads the first n places alone (01, Mix): neither the places nor the volumes past the layers bear on what it does.
use mathlib.Core.Bool.{Bool, true, false, cond}
use mathlib.Core.Path.{◌≡◌, refl, ap, ◌∙◌}
use mathlib.Core.List.{List, ◌++◌}
use Prim.Native.Nat.{ℕ, zero, suc, ◌+◌, ◌-◌, ◌≤◌, ◌<◌}
use native.Mathlib.Omega.{arith}
use lib.Ieee.{Float, nan}
use lib.ListN.{length, get_or, set, length-set, get_or-append}
use lib.Seq.{set-append_left}
use Rattle.numeric.specs.Iterate.{iterate_beside}
use Rattle.numeric.specs.Holds.{holds_same}
use Rattle.numeric.specs.Tabulate.{tabulate_same}
use Rattle.mixing.specs.Limits.{max_rounds}
use Rattle.mixing.specs.Round.{Walk, joins, group_temp, heat_term, volume_term, fill, pair, one_round}
use Rattle.mixing.specs.Rearrange.{Mixing, sorted, unsorted, rises, is_sorted, rounds, rearrange}
use Rattle.mixing.proofs.Group.{joined, parted, pair_bottom}
use Rattle.mixing.proofs.Length.{pair_length}

-- the layers that a mixing leaves, with more places after them
abbrev pub followed_by : List Float → Mixing → Mixing
followed_by ys (sorted us k) = sorted (us ++ ys) k
followed_by ys unsorted = unsorted

-- two lists of volumes are the same for n layers
abbrev pub SameBelow : ℕ → List Float → List Float → Type 0
SameBelow n vol vol' = (j : ℕ) → j < n → get_or vol' j nan ≡ get_or vol j nan

-- a filling of places below n
module _ (n : ℕ) (x : Float) (ys : List Float) where
  abbrev Filled : ℕ → List Float → List Float → Type 0
  Filled i xs zs = (length xs ≡ n) × (zs ≡ xs ++ ys)

  store : (i : ℕ) (xs zs : List Float) → i < n → Filled i xs zs → Filled (i + 1) (set xs i x) (set zs i x)
  store i xs zs h r = (length-set xs i x ∙ r.0, rw r.1 (set-append_left xs ys i x (omega arith)))

  fill_first : (i end : ℕ) (xs : List Float) → i ≤ end → end ≤ n → length xs ≡ n → Filled end (fill i end x xs) (fill i end x (xs ++ ys))
  fill_first i end xs h l e =
      iterate_beside (λ (k : ℕ) (t : List Float). set t k x) (λ (k : ℕ) (t : List Float). set t k x) Filled n store (end - i) i xs (xs ++ ys) (omega arith) (e, refl)

module _ (n : ℕ) (vol vol' ys : List Float) (v : SameBelow n vol vol') where
  get_d_first : (xs : List Float) → length xs ≡ n → (j : ℕ) → j < n → get_or (xs ++ ys) j nan ≡ get_or xs j nan
  get_d_first xs e j h = get_or-append xs ys nan j (omega arith)

  group_temp_first : (xs : List Float) (bottom end : ℕ) → length xs ≡ n → group_temp n vol' (xs ++ ys) bottom end ≡ group_temp n vol xs bottom end
  unfolding group_temp
  group_temp_first xs bottom end e =
      rw (
        tabulate_same (heat_term vol' (xs ++ ys) bottom end) (heat_term vol xs bottom end) n 0 (λ j l u. rw (v j (omega arith), get_d_first xs e j (omega arith))),
        tabulate_same (volume_term vol' bottom end) (volume_term vol bottom end) n 0 (λ j l u. rw (v j (omega arith))),
      )

  -- the walk so far: as many layers, the group at or below the pair, and the places past the layers as they were
  abbrev Walked : ℕ → Walk → Walk → Type 0
  Walked i w z = (length w.temps ≡ n) × (w.bottom ≤ i) × (z ≡ record { temps = w.temps ++ ys; bottom = w.bottom })

  -- a choice between two walks, with the places past the layers in each, is the walk chosen with them
  spread : (b : Bool) (j p : Walk) → cond {A = Walk} b (record { temps = j.temps ++ ys; bottom = j.bottom }) (record { temps = p.temps ++ ys; bottom = p.bottom }) ≡ record { temps = (cond b j p).temps ++ ys; bottom = (cond b j p).bottom }
  spread true j p = refl
  spread false j p = refl

  pair_first : (i : ℕ) (w z : Walk) → i < n - 1 → Walked i w z → Walked (i + 1) (pair n vol i w) (pair n vol' i z)
  unfolding pair
  pair_first i w z h r =
      let xs = w.temps in
      let e = r.0 in
      let b = joins (get_or xs i nan) (get_or xs (i + 1) nan) in
      let x = group_temp n vol xs w.bottom (i + 2) in
      let f = fill_first n x ys w.bottom (i + 2) xs (omega arith) (omega arith) e in (
        pair_length n n vol i w e,
        pair_bottom n vol i w r.1,
        rw (r.2, get_d_first xs e i (omega arith), get_d_first xs e (i + 1) (omega arith), group_temp_first xs w.bottom (i + 2) e, f.1) (spread b (joined n vol i w) (parted n vol i w)),
      )

  round_first : (xs : List Float) → 1 ≤ n → length xs ≡ n → (length (one_round n vol xs) ≡ n) × (one_round n vol' (xs ++ ys) ≡ one_round n vol xs ++ ys)
  unfolding one_round
  round_first xs l e =
      let w = iterate_beside (pair n vol) (pair n vol') Walked (n - 1) pair_first (n - 1) 0 (record { temps = xs; bottom = 0 }) (record { temps = xs ++ ys; bottom = 0 }) (omega arith) (e, omega arith, refl) in
      (w.0, ap (λ (z : Walk). z.temps) w.2)

  sorted_first : (xs : List Float) → length xs ≡ n → is_sorted n (xs ++ ys) ≡ is_sorted n xs
  unfolding is_sorted
  sorted_first xs e =
      holds_same (rises (xs ++ ys)) (rises xs) (n - 1) 0 (λ j l u. rw (get_d_first xs e j (omega arith), get_d_first xs e (j + 1) (omega arith)))

  rounds_first : (left : ℕ) (b : Bool) (k : ℕ) (xs : List Float) → 1 ≤ n → length xs ≡ n → rounds left b k n vol' (xs ++ ys) ≡ followed_by ys (rounds left b k n vol xs)
  unfolding rounds
  rounds_first zero true k xs l e = refl
  rounds_first zero false k xs l e = refl
  rounds_first (suc left) true k xs l e = refl
  rounds_first (suc left) false k xs l e =
      let r = round_first xs l e in
      rw (r.1, sorted_first (one_round n vol xs) r.0) (rounds_first left (is_sorted n (one_round n vol xs)) (k + 1) (one_round n vol xs) l r.0)

  -- the law: whatever stands past the layers stays there, and the layers are as if it were not
  pub rearrange_first : (xs : List Float) → 1 ≤ n → length xs ≡ n → rearrange n vol' (xs ++ ys) ≡ followed_by ys (rearrange n vol xs)
  unfolding rearrange
  rearrange_first xs l e = rounds_first (max_rounds n) false 0 xs l e
