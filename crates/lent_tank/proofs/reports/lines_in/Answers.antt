-- `reports::lines_in` meets its contract (01, The four calls): each place holds its line.
use Rattle.std.proofs.Common.{rules}
use Rattle.lent_tank.specs.Layout.{line_in, lines_in}
use Rattle.lent_tank.proofs.Places.{row}
use Rattle.lent_tank.proofs.reports.lines_in.Goals as goal

pub returns : goal.returns
unfolding lines_in
returns c = rw (← c.flags_in-on.ensures) (row _ _ (line_in c.args.figures.now c.flags_in-on.result c.args.rounds.now) _ _ (λ h y t l e. (search rules, search rules)) c.from_fn.ensures.items)
