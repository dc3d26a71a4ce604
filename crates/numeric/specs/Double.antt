-- States how the specifications write doubles (01, Arithmetic underneath): IEEE 754 binary64, one rounding an operation.
-- A circled sign is the operation followed by its one rounding, as the numerical literature writes it.
use Rattle.std.specs.Prelude.{◌≡◌, refl, false, ℕ, ◌^◌, pos, Float}
use Rattle.std.specs.Float.{binary64}
use Rattle.std.specs.Float.Ieee.{of_bits, of_int, round, add, sub, mul, div}

-- the double with the bit pattern b
abbrev pub dbl : ℕ → Float
dbl b = of_bits binary64 b

-- the double of a whole number
abbrev pub whole : ℕ → Float
whole n = of_int binary64 (pos n)

abbrev pub ◌⊕◌ : Float → Float → Float
◌⊕◌ a b = add binary64 a b

abbrev pub ◌⊖◌ : Float → Float → Float
◌⊖◌ a b = sub binary64 a b

abbrev pub ◌⊛◌ : Float → Float → Float
◌⊛◌ a b = mul binary64 a b

abbrev pub ◌⊘◌ : Float → Float → Float
◌⊘◌ a b = div binary64 a b

infixl 60 ◌⊕◌ ◌⊖◌
infixl 70 ◌⊛◌ ◌⊘◌
abbrev pub zero_f : Float
zero_f = dbl 0x0000_0000_0000_0000

abbrev pub one_f : Float
one_f = dbl 0x3ff0_0000_0000_0000

-- the largest double below 1: 1 - 2^-53 (proofs/Layer.antt)
abbrev pub just_below_one : Float
just_below_one = dbl 0x3fef_ffff_ffff_ffff

abbrev pub four_f : Float
four_f = dbl 0x4010_0000_0000_0000

abbrev pub five_f : Float
five_f = dbl 0x4014_0000_0000_0000

-- the tolerances of Close: 1e-9 of the larger magnitude; narrow, 2^-52; wide, 1e-10
abbrev pub relative_tolerance : Float
relative_tolerance = dbl 0x3e11_2e0b_e826_d695

abbrev pub narrow_tolerance : Float
narrow_tolerance = dbl 0x3cb0_0000_0000_0000

abbrev pub wide_tolerance : Float
wide_tolerance = dbl 0x3ddb_7cdf_d9d7_bdbb

-- the part of the heaters' losses that is recoverable: 0.75
abbrev pub three_quarters : Float
three_quarters = dbl 0x3fe8_0000_0000_0000

-- each of them is the double nearest to the number that 01 writes
pub relative_tolerance_nearest : relative_tolerance ≡ round binary64 false 1 (10 ^ 9)
unfolding of_bits round
relative_tolerance_nearest = refl

pub narrow_tolerance_nearest : narrow_tolerance ≡ round binary64 false 1 (2 ^ 52)
unfolding of_bits round
narrow_tolerance_nearest = refl

pub wide_tolerance_nearest : wide_tolerance ≡ round binary64 false 1 (10 ^ 10)
unfolding of_bits round
wide_tolerance_nearest = refl

pub three_quarters_nearest : three_quarters ≡ round binary64 false 3 4
unfolding of_bits round
three_quarters_nearest = refl
