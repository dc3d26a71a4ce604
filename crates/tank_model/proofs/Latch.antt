-- Proves what a latch remembers: a flag that each member of a list may set and then reset is on at the end exactly when some member set it and none from that one to
-- the last reset it (00, demand 3; 01, Switch-on and switch-off).
use mathlib.Core.Path.{◌≡◌, sym, subst}
use mathlib.Core.Logic.{◌↔◌, ◌⊎◌, inl, inr}
use mathlib.Core.List.{List, [], ◌∷◌}
use mathlib.Core.Bool.{Bool, true, false, not}
use Prim.Native.Nat.{ℕ, zero, suc, ◌≤◌, zero-le, suc-le-suc}
use native.Mathlib.Nat.{le_of_suc-le-suc, not-suc-le-zero}
use lib.Dec.{T}
use lib.ListN.{get_or}
use Rattle.heater_switches.specs.SwitchLaws.{latched}

not_reset : (s r f : Bool) → T (latched s r f) → T (not r)
not_reset true false f t = tt
not_reset false false true t = tt
not_reset true true f t = t
not_reset false true true t = t
not_reset false true false t = t
not_reset false false false t = tt

set_or_was : (s r f : Bool) → T (latched s r f) → T s ⊎ T f
set_or_was true r f t = inl tt
set_or_was false r true t = inr tt
set_or_was false r false t = absurd t

by_set : (s r f : Bool) → T s → T (not r) → T (latched s r f)
by_set true r f t n = n
by_set false r f t n = absurd t

by_was : (s r f : Bool) → T f → T (not r) → T (latched s r f)
by_was true r true t n = n
by_was false r true t n = n
by_was true r false t n = absurd t
by_was false r false t n = absurd t

module _ {W : Type 0} (sets resets : W → Bool) (none : W) where
  unfoldable pub latched_by : Bool → List W → Bool
  latched_by f [] = f
  latched_by f (w ∷ ws) = latched_by (latched (sets w) (resets w) f) ws

  -- none from the i-th on resets it
  abbrev pub Unreset : ℕ → List W → Type 0
  Unreset i ws = (j : ℕ) → i ≤ j → T (not (resets (get_or ws j none)))

  abbrev pub SetSince : List W → Type 0
  SetSince ws = (i : ℕ) × T (sets (get_or ws i none)) × Unreset i ws

  unreset_tail : (i : ℕ) (w : W) (ws : List W) → Unreset (suc i) (w ∷ ws) → Unreset i ws
  unreset_tail i w ws h j l = h (suc j) (suc-le-suc l)

  unreset_cons : (w : W) (ws : List W) → T (not (resets w)) → Unreset 0 ws → Unreset 0 (w ∷ ws)
  unreset_cons w ws n h zero l = n
  unreset_cons w ws n h (suc j) l = h j zero-le

  unreset_up : (i : ℕ) (w : W) (ws : List W) → Unreset i ws → Unreset (suc i) (w ∷ ws)
  unreset_up i w ws h zero l = absurd (not-suc-le-zero l)
  unreset_up i w ws h (suc j) l = h j (le_of_suc-le-suc l)

  unreset_rest : (w : W) (ws : List W) → Unreset 0 (w ∷ ws) → Unreset 0 ws
  unreset_rest w ws h j l = h (suc j) zero-le

  module _ (never-set : sets none ≡ false) (never-reset : resets none ≡ false) where
    to : (f : Bool) (ws : List W) → T (latched_by f ws) → (T f × Unreset 0 ws) ⊎ SetSince ws
    unfolding latched_by
    to f [] t = inl (t, λ j l. subst (λ (b : Bool). T (not b)) (sym never-reset) tt)
    to f (w ∷ ws) t = go (to (latched (sets w) (resets w) f) ws t)
      where
        go : (T (latched (sets w) (resets w) f) × Unreset 0 ws) ⊎ SetSince ws → (T f × Unreset 0 (w ∷ ws)) ⊎ SetSince (w ∷ ws)
        go (inr o) = inr (suc o.0, o.1, unreset_up o.0 w ws o.2)
        go (inl p) = pick (set_or_was (sets w) (resets w) f p.0)
          where
            all : Unreset 0 (w ∷ ws)
            all = unreset_cons w ws (not_reset (sets w) (resets w) f p.0) p.1

            pick : T (sets w) ⊎ T f → (T f × Unreset 0 (w ∷ ws)) ⊎ SetSince (w ∷ ws)
            pick (inl b) = inr (0, b, all)
            pick (inr g) = inl (g, all)

    from : (f : Bool) (ws : List W) → (T f × Unreset 0 ws) ⊎ SetSince ws → T (latched_by f ws)
    unfolding latched_by
    from f [] (inl p) = p.0
    from f [] (inr o) = absurd (subst T never-set o.1)
    from f (w ∷ ws) (inl p) = from (latched (sets w) (resets w) f) ws (inl (by_was (sets w) (resets w) f p.0 (p.1 0 zero-le), unreset_rest w ws p.1))
    from f (w ∷ ws) (inr o) = from (latched (sets w) (resets w) f) ws (go o.0 o.1 o.2)
      where
        go : (i : ℕ) → T (sets (get_or (w ∷ ws) i none)) → Unreset i (w ∷ ws) → (T (latched (sets w) (resets w) f) × Unreset 0 ws) ⊎ SetSince ws
        go zero b s = inl (by_set (sets w) (resets w) f b (s 0 zero-le), unreset_rest w ws s)
        go (suc i) b s = inr (i, b, unreset_tail i w ws s)

    -- from a flag that is off
    pub latched_since : (ws : List W) → T (latched_by false ws) ↔ SetSince ws
    latched_since ws = (λ t. left (to false ws t), λ o. from false ws (inr o))
      where
        left : (T false × Unreset 0 ws) ⊎ SetSince ws → SetSince ws
        left (inl p) = absurd p.0
        left (inr o) = o
