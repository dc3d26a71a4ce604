-- States how many bytes the line of a turn takes at most (01, Turn; Job). A letter, a hyphen and a line's end take 1.
use Rattle.std.specs.Prelude.{ℕ, ◌+◌, ◌*◌}
use Rattle.job_lines.specs.Lengths.{number_bytes, double_bytes}

-- the lower and the upper set point
abbrev pub points_bytes : ℕ
points_bytes = 2 * double_bytes

-- T, the heater, its thermostat layer twice, and its set points
abbrev pub course_bytes : ℕ
course_bytes = 1 + number_bytes + 2 * double_bytes + points_bytes

-- whether it ran, its flag, its supply, its rounds, and the line's end
abbrev pub outcome_bytes : ℕ
outcome_bytes = 3 * number_bytes + double_bytes + 1

abbrev pub turn_bytes : ℕ
turn_bytes = course_bytes + outcome_bytes
