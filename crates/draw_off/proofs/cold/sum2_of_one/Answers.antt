-- `cold::sum2_of_one` meets its contract (01, Arithmetic underneath): the one term is added to nothing.
use Rattle.numeric.specs.Sum2.{accumulate_all, sum2}
use Rattle.draw_off.proofs.cold.sum2_of_one.Goals as goal

pub returns : goal.returns
unfolding sum2 accumulate_all
returns c = rw (c.total_of.ensures, c.add_term.ensures, c.start.ensures)
