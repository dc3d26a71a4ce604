-- States how many bytes the lines of one record take at most (01, Job), from how many layers and heaters there can be. A letter and a line's end take 1.
use Rattle.std.specs.Prelude.{ℕ, ◌+◌, ◌*◌}
use Rattle.mixing.specs.Limits.{max_layers}
use Rattle.working_order.specs.Order.{max_heaters}

-- a number with its space, and a double with its own
abbrev pub number_bytes : ℕ
number_bytes = 1 + 20

abbrev pub double_bytes : ℕ
double_bytes = 1 + 16

-- S, its index and its number
abbrev pub head_bytes : ℕ
head_bytes = 1 + 2 * number_bytes

-- the four totals, and the line's end
abbrev pub totals_bytes : ℕ
totals_bytes = 4 * double_bytes + 1

-- L, and a double for each layer
abbrev pub layers_bytes : ℕ
layers_bytes = 1 + double_bytes * max_layers + 1

-- H, two numbers and three doubles
abbrev pub heater_bytes : ℕ
heater_bytes = 1 + 2 * number_bytes + 3 * double_bytes + 1

-- before the heaters' lines, and all
abbrev pub before_heaters : ℕ
before_heaters = head_bytes + totals_bytes + layers_bytes

abbrev pub max_text : ℕ
max_text = before_heaters + heater_bytes * max_heaters

-- a place that no record's text comes near: below it sums of places do not wrap
abbrev pub max_place : ℕ
max_place = 3 * max_text
