-- `steps::settings_in` meets its contract (01, The four calls): each place holds its set points.
use Rattle.std.proofs.Common.{rules}
use Rattle.lent_tank.specs.Layout.{setting_in, settings_in}
use Rattle.lent_tank.proofs.Places.{row}
use Rattle.lent_tank.proofs.steps.settings_in.Goals as goal

pub returns : goal.returns
unfolding settings_in
returns c = rw (← c.flags_in-there.ensures) (row _ _ (setting_in c.flags_in-there.result c.args.points.now) _ _ (λ h y t l e. (search rules, search rules)) c.from_fn.ensures.items)
