-- States how many layers there can be, and how many rounds a mixing may run (01, refusals 1 and 9).
use Rattle.std.specs.Prelude.{ℕ}

-- `MAX_LAYERS` of the code, and the length of its arrays of layers
abbrev pub max_layers : ℕ
max_layers = 32

-- the rounds that a mixing of n layers may run
abbrev pub max_rounds : ℕ → ℕ
max_rounds n = 64
