-- `no_notes` meets its contract: the default of each line and of each course is zeros.
use Rattle.std.proofs.Common.{rules}
use Rattle.tank_model.specs.Work.{zero_line}
use Rattle.tank_model.proofs.Defaults.{all_default}
use Rattle.heater_turns.specs.Notes.{no_course}
use Rattle.heater_turns.proofs.no_notes.Goals as goal

pub returns : goal.returns
returns c =
    let d = c.default.ensures in
    let lines = all_default _ zero_line (λ y p. search rules) _ _ d.0 in
    let courses = all_default _ no_course (λ y p. search rules) _ _ d.1.0 in
    rw (lines, courses, d.1.1)
