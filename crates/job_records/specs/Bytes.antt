-- States the numbers in a list of bytes (01, Job): little-endian, a double by its bit pattern, whatever the pattern.
use Rattle.std.specs.Prelude.{ℕ, ◌+◌, ◌*◌, List, get_or, Float}
use Rattle.numeric.specs.Double.{dbl}

abbrev pub byte_at : List ℕ → ℕ → ℕ
byte_at s at = get_or s at 0

unfoldable pub u16_at : List ℕ → ℕ → ℕ
u16_at s at = byte_at s at + 256 * byte_at s (at + 1)

unfoldable pub u32_at : List ℕ → ℕ → ℕ
u32_at s at = u16_at s at + 65536 * u16_at s (at + 2)

unfoldable pub u64_at : List ℕ → ℕ → ℕ
u64_at s at = u32_at s at + 4294967296 * u32_at s (at + 4)

unfoldable pub double_at : List ℕ → ℕ → Float
double_at s at = dbl (u64_at s at)
