-- States the lines of a step's history (01, Turn; demand 3): S with the step's index and number, and T for each turn.
use Rattle.std.specs.Prelude.{ℕ, false, cond, List, [], ◌∷◌, ◌++◌, get_or, Option, Some, None, Float}
use Rattle.std.specs.Float.{nan}
use Rattle.set_points.specs.declared.SetPoints.{SetPoints}
use Rattle.set_points.specs.declared.SetPoints.TheVariants.{Neither, Lower, Upper, Both}
use Rattle.job_lines.specs.Text.{space, newline, number_text, double_text}
use Rattle.job_lines.specs.Lines.{joined, head_text}
use Rattle.job_history.specs.declared.TurnFact.{TurnFact}
use Rattle.job_history.specs.declared.Turns.{Turns}

-- a hyphen for what is missing
abbrev pub missing_text : List ℕ
missing_text = space ∷ 45 ∷ []

-- a set point that may be missing
abbrev pub point_text : Option Float → List ℕ
point_text (Some x) = double_text x
point_text None = missing_text

-- the lower and the upper set point
unfoldable pub points_text : SetPoints → List ℕ
points_text Neither = missing_text ++ missing_text
points_text (Lower l) = double_text l ++ missing_text
points_text (Upper u) = missing_text ++ double_text u
points_text (Both l u) = double_text l ++ double_text u

-- T, the heater, its thermostat layer at the begin and at the end, and its set points
unfoldable pub course_text : TurnFact → List ℕ
course_text x = 84 ∷ number_text x.heater ++ double_text x.start ++ double_text x.finish ++ points_text x.points

-- whether it ran, its flag, its supply and the rounds of its mixing, and the line's end
unfoldable pub outcome_text : TurnFact → List ℕ
outcome_text x = number_text (cond x.ran 1 0) ++ number_text (cond x.flag 1 0) ++ double_text x.supplied ++ number_text x.rounds ++ (newline ∷ [])

unfoldable pub turn_line : TurnFact → List ℕ
turn_line x = course_text x ++ outcome_text x

-- what is read past the end of an array of facts
abbrev pub past_facts : TurnFact
past_facts = record { heater = 0; points = Neither; start = nan; finish = nan; ran = false; flag = false; supplied = nan; rounds = 0 }

abbrev pub line_at : List TurnFact → ℕ → List ℕ
line_at facts k = turn_line (get_or facts k past_facts)

unfoldable pub turn_lines : ℕ → List TurnFact → List ℕ
turn_lines count facts = joined (line_at facts) count

unfoldable pub history_lines : ℕ → ℕ → Turns → List ℕ
history_lines index number r = head_text index number ++ (newline ∷ []) ++ turn_lines r.count r.facts
