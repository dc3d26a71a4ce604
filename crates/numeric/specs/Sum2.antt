-- States Sum2 (01, Arithmetic underneath), and proves that a loop over an accumulator works it out.
use Rattle.std.specs.Prelude.{◌≡◌, List, [], ◌∷◌, Float}
use Rattle.std.proofs.Math.Path.{refl}
use Prim.Native.Nat.{ℕ, zero, suc, ◌+◌}
use Rattle.numeric.specs.declared.sum2.Accumulator.{Accumulator}
use Rattle.numeric.specs.Double.{◌⊕◌, ◌⊖◌, zero_f}
use Rattle.numeric.specs.Iterate.{iterate}
use Rattle.numeric.specs.Tabulate.{tabulate}

-- s and c start at 0
abbrev pub nothing_added : Accumulator
nothing_added = record { s = zero_f; c = zero_f }

-- for a term b: x = s + b, z = x - s, c = c + ((s - (x - z)) + (b - z)), s = x
unfoldable pub accumulate : Accumulator → Float → Accumulator
accumulate a b =
    let x = a.s ⊕ b in
    let z = x ⊖ a.s in
    record { s = x; c = a.c ⊕ ((a.s ⊖ (x ⊖ z)) ⊕ (b ⊖ z)) }

unfoldable pub accumulate_all : List Float → Accumulator → Accumulator
accumulate_all [] a = a
accumulate_all (b ∷ bs) a = accumulate_all bs (accumulate a b)

-- the answer is s + c
abbrev pub total : Accumulator → Float
total a = a.s ⊕ a.c

unfoldable pub sum2 : List Float → Float
sum2 bs = total (accumulate_all bs nothing_added)

-- one pass of the loop that adds the term g i
abbrev pub add_at : (ℕ → Float) → ℕ → Accumulator → Accumulator
add_at g i a = accumulate a (g i)

module _ (g : ℕ → Float) where
  pub accumulate_iterate : (k i : ℕ) (a : Accumulator) → accumulate_all (tabulate g k i) a ≡ iterate (add_at g) k i a
  unfolding tabulate accumulate_all iterate
  accumulate_iterate zero i a = refl
  accumulate_iterate (suc k) i a = accumulate_iterate k (i + 1) (accumulate a (g i))

  pub sum2_iterate : (n : ℕ) → sum2 (tabulate g n 0) ≡ total (iterate (add_at g) n 0 nothing_added)
  unfolding sum2
  sum2_iterate n = rw accumulate_iterate
