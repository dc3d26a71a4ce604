-- `reports::figures_of` meets its contract (01, The four calls): three numbers of each line.
use Rattle.tank_model.specs.declared.HeaterLine.{HeaterLine}
use Rattle.lent_tank.specs.Reports.{no_line, figures_of}
use Rattle.lent_tank.proofs.reports.figures_of.Goals as goal

pub returns : goal.returns
unfolding figures_of
returns c = c.three_each.ensures (λ (x : HeaterLine). x.adjusted) (λ (x : HeaterLine). x.supplied) (λ (x : HeaterLine). x.losses) no_line (λ x r says. says)
