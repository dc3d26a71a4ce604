-- Proves of flags in lent bytes (01, The four calls): flags that were written are read as they were, and bytes of 0 and 1 are those written of what is read
-- in them.
use Prim.Native.Nat.{ℕ, zero, suc, ◌≤◌}
use native.Mathlib.Omega.{arith}
use mathlib.Core.Path.{◌≡◌, refl, ap}
use mathlib.Core.Bool.{Bool, true, false, not}
use mathlib.Core.List.{List, [], ◌∷◌}
use lib.Dec.{eqb, eqb-suc-zero}
use Rattle.lent_tank.specs.Flags.{flag_in, byte_of, flags_in, bytes_of, ZeroOrOne}

-- the reader's test
pub flag_test : (b : ℕ) → not (eqb b 0) ≡ flag_in b
unfolding flag_in
flag_test zero = refl
flag_test (suc b) = ap not (eqb-suc-zero b)

-- no byte but 0 is false
pub others_true : (b : ℕ) → (b ≡ 0 → ⊥) → flag_in b ≡ true
unfolding flag_in
others_true zero n = absurd (n refl)
others_true (suc b) n = refl

pub flag_back : (f : Bool) → flag_in (byte_of f) ≡ f
unfolding flag_in byte_of
flag_back false = refl
flag_back true = refl

byte_back : (b : ℕ) → b ≤ 1 → byte_of (flag_in b) ≡ b
unfolding flag_in byte_of
byte_back zero l = refl
byte_back (suc zero) l = refl
byte_back (suc (suc b)) l = absurd (omega arith)

pub flags_back : (fs : List Bool) → flags_in (bytes_of fs) ≡ fs
flags_back [] = refl
flags_back (f ∷ fs) = rw (flag_back f, flags_back fs)

pub bytes_back : (bs : List ℕ) → ZeroOrOne bs → bytes_of (flags_in bs) ≡ bs
bytes_back [] z = refl
bytes_back (b ∷ bs) z = rw (byte_back b (z 0), bytes_back bs (λ i. z (suc i)))

byte_small : (f : Bool) → byte_of f ≤ 1
unfolding byte_of
byte_small false = omega arith
byte_small true = omega arith

pub bytes_small : (fs : List Bool) → ZeroOrOne (bytes_of fs)
bytes_small [] i = omega arith
bytes_small (f ∷ fs) zero = byte_small f
bytes_small (f ∷ fs) (suc i) = bytes_small fs i
