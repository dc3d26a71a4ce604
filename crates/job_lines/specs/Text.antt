-- States the text of numbers (01, Job): decimals, and doubles as the 16 lowercase hexadecimal digits of their bits, each after a space.
use Rattle.std.specs.Prelude.{ℕ, zero, suc, ◌+◌, ◌/◌, ◌%◌, ◌≤◌, cond, ◌≡◌, refl, List, [], ◌∷◌, ◌++◌, ltb, eqb, Float}
use Rattle.std.specs.Float.{binary64}
use Rattle.std.specs.Float.Ieee.{to_bits}

-- 0 to 9, then a to f
unfoldable pub digit_of : ℕ → ℕ
digit_of d = cond (ltb d 10) (d + 48) (d + 87)

-- the last `count` digits of a number in a base: those of the quotient, then the remainder's
unfoldable pub digits : ℕ → ℕ → ℕ → List ℕ
digits base zero n = []
digits base (suc count) n = digits base count (n / base) ++ (digit_of (n % base) ∷ [])

-- how many decimal digits a number has: one, and one more for as long as the quotient is not 0; a number of 64 bits has at most 20
unfoldable pub width_from : ℕ → ℕ → ℕ → ℕ
width_from zero k rest = k
width_from (suc fuel) k rest = cond (eqb rest 0) k (width_from fuel (k + 1) (rest / 10))

unfoldable pub width_of : ℕ → ℕ
width_of n = width_from 19 1 (n / 10)

-- n has r decimal digits
pub record Width (n r : ℕ) : Type 0 where
  pub is : r ≡ width_of n
  pub few : r ≤ 20

abbrev pub space : ℕ
space = 32

abbrev pub newline : ℕ
newline = 10

unfoldable pub decimal : ℕ → List ℕ
decimal n = digits 10 (width_of n) n

unfoldable pub hexadecimal : Float → List ℕ
hexadecimal x = digits 16 16 (to_bits binary64 x)

abbrev pub number_text : ℕ → List ℕ
number_text n = space ∷ decimal n

abbrev pub double_text : Float → List ℕ
double_text x = space ∷ hexadecimal x

-- 0, 65536 and the largest number of 64 bits in decimal
pub zero_decimal : decimal 0 ≡ 48 ∷ []
unfolding decimal digits digit_of width_of width_from
zero_decimal = refl

pub input_decimal : decimal 65536 ≡ 54 ∷ 53 ∷ 53 ∷ 51 ∷ 54 ∷ []
unfolding decimal digits digit_of width_of width_from
input_decimal = refl

pub last_decimal : decimal 18446744073709551615
    ≡ 49 ∷ 56 ∷ 52 ∷ 52 ∷ 54 ∷ 55 ∷ 52 ∷ 52 ∷ 48 ∷ 55 ∷ 51 ∷ 55 ∷ 48 ∷ 57 ∷ 53 ∷ 53 ∷ 49 ∷ 54 ∷ 49 ∷ 53 ∷ []
unfolding decimal digits digit_of width_of width_from
last_decimal = refl
