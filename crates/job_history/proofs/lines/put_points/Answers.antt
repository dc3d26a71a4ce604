-- `lines::put_points` meets its contract: the lower set point, then the upper.
use Rattle.std.proofs.Common.{◌≡◌, refl, ◌++◌}
use Rattle.set_points.specs.declared.SetPoints.{SetPoints}
use Rattle.set_points.specs.declared.SetPoints.TheVariants.{Neither, Lower, Upper, Both}
use Rattle.set_points.specs.SetPoints.{has_lower, lower_of, has_upper, upper_of, given_lower, given_upper}
use Rattle.job_lines.specs.Put.{writes_then}
use Rattle.job_history.specs.Lines.{point_text, points_text}
use Rattle.job_history.proofs.lines.put_points.Goals as goal

each_point : (p : SetPoints) → points_text p ≡ point_text (given_lower p) ++ point_text (given_upper p)
unfolding points_text has_lower lower_of has_upper upper_of
each_point Neither = refl
each_point (Lower l) = refl
each_point (Upper u) = refl
each_point (Both l u) = refl

pub returns-clause-puts : goal.returns-clause-puts
returns-clause-puts c = rw (each_point c.args.p, ← c.lower.ensures, ← c.upper.ensures) (writes_then c.put_point.ensures.puts c.put_point-2.ensures.puts)
