-- States zeros of either sign, and when two doubles are the same but for the sign of a zero (01, Arithmetic underneath): what `==` finds of two numbers.
use Rattle.std.specs.Prelude.{◌≡◌, ◌⊎◌, Bool, pos, Float}
use Rattle.std.specs.Float.{fin}

-- the zero with the sign s: +0 where s is false
abbrev pub signed_zero : Bool → Float
signed_zero s = fin s 0 (pos 0)

abbrev pub IsZero : Float → Type 0
IsZero x = (s : Bool) × (x ≡ signed_zero s)

abbrev pub SameValue : Float → Float → Type 0
SameValue x y = (x ≡ y) ⊎ (IsZero x × IsZero y)
