-- Proves that a finite double less itself is 0 (01, Arithmetic underneath).
use mathlib.Core.Bool.{true, false}
use mathlib.Core.Path.{◌≡◌, refl, ◌∙◌}
use Prim.Native.Nat.{ℕ, ◌*◌, ◌<◌}
use native.Mathlib.Nat.{sub_self, zero-mul, mul-pos, zero-lt-suc}
use native.Mathlib.Omega.{arith}
use borrow.Author.Tests.{le-ltb}
use lib.Ieee.{Float, nan, inf, fin, binary64, up, down, add, sub, neg, sum, round, of_bits}
use lib.Ieee.Fits.{down_pos}
use lib.Ieee.Scale.{round_same, finite}
use Rattle.numeric.specs.Double.{◌⊖◌, zero_f}

pub round_none : (d : ℕ) → 0 < d → round binary64 false 0 d ≡ zero_f
unfolding round of_bits
round_none d h = round_same binary64 false 0 d 0 1 h (zero-lt-suc 0) (simp zero-mul) ∙ refl

pub minus_self : (x : Float) → finite x ≡ true → x ⊖ x ≡ zero_f
unfolding sub add neg sum
minus_self nan h = cc
minus_self (inf s) h = cc
minus_self (fin true m e) h = rw (le-ltb (m * up e * down e) (m * up e * down e) (omega arith), sub_self) (round_none (down e * down e) (mul-pos (down_pos e) (down_pos e)))
minus_self (fin false m e) h = rw (le-ltb (m * up e * down e) (m * up e * down e) (omega arith), sub_self) (round_none (down e * down e) (mul-pos (down_pos e) (down_pos e)))
