-- States how a flag stands in a lent byte (01, The four calls): whether a heater has a thermostat position of its own, whether it is on, whether a set point is
-- there. C can lend any byte, so each has a meaning.
use Rattle.std.specs.Prelude.{ℕ, zero, suc, ◌≤◌, Bool, true, false, List, map, get_or}

-- a byte is false where it is 0 and true for all others
unfoldable pub flag_in : ℕ → Bool
flag_in zero = false
flag_in (suc b) = true

-- written, a flag is 1 or 0
unfoldable pub byte_of : Bool → ℕ
byte_of false = 0
byte_of true = 1

abbrev pub flags_in : List ℕ → List Bool
flags_in bytes = map flag_in bytes

abbrev pub bytes_of : List Bool → List ℕ
bytes_of flags = map byte_of flags

-- bytes that are written of flags: each is 0 or 1
abbrev pub ZeroOrOne : List ℕ → Type 0
ZeroOrOne bytes = (i : ℕ) → get_or bytes i 0 ≤ 1
