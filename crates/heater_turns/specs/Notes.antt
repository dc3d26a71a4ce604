-- States what a step's turns note as they go, also where the step is refused (01, Turn; demand 3): the report's lines, and what the history tells besides.
use Rattle.std.specs.Prelude.{◌+◌, false, List, [], ◌∷◌, set, replicate}
use Rattle.numeric.specs.Double.{zero_f}
use Rattle.working_order.specs.Order.{max_heaters}
use Rattle.tank_model.specs.declared.TurnCourse.{TurnCourse}
use Rattle.tank_model.specs.declared.TurnNotes.{TurnNotes}
use Rattle.tank_model.specs.Work.{zero_line, Turn, line_of}

abbrev pub no_course : TurnCourse
no_course = record { start = zero_f; finish = zero_f; ran = false }

-- before the first turn
abbrev pub no_notes : TurnNotes
no_notes = record { lines = replicate max_heaters zero_line; courses = replicate max_heaters no_course; worked = 0 }

-- the thermostat layer where a turn began and where it ended, and whether the heater ran on
abbrev pub course_of : Turn → TurnCourse
course_of u = record { start = u.start; finish = u.finish; ran = u.turned.ran }

-- each in the place of its heater
abbrev pub with_turn : Turn → TurnNotes → TurnNotes
with_turn u x = record {
  lines = set x.lines u.heater (line_of u.turned);
  courses = set x.courses u.heater (course_of u);
  worked = x.worked + 1;
}

unfoldable pub with_turns : List Turn → TurnNotes → TurnNotes
with_turns [] x = x
with_turns (u ∷ us) x = with_turns us (with_turn u x)
