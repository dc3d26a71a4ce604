-- `RunningGroup::join_even` meets its contract (01, Mix): by one product.
use Rattle.std.proofs.Common.{rules}
use Rattle.layer_joining.proofs.Joined.{Join, follows, kept_even, anew_even, each_stays}
use Rattle.layer_joining.proofs.RunningGroup.join_even.Goals as goal
use Rattle.layer_joining.proofs.RunningGroup.join_even.Goals.{then-p-product, else-p-product}

pub returns : goal.returns
returns c =
    let each = c.requires.each_is in
    let j : Join = record {
      vol = c.args.vol.now;
      next = c.args.next;
      r = c.args.self;
      sum = c.args.sum;
      volume = c.args.volume;
      s = c.args.total;
      t = c.total_of.result;
      warms = c.requires.warms;
      volume_total = c.total_of.ensures;
      volume_fits = search rules;
    } in
    follows j c.if-p-product.heat c.args.self.each
    (elim c.if-p-product.branch [
      | then-p-product w ↦ rw w.heat-is (kept_even j w.add_known-heat.result w.add_known-heat.ensures c.requires.each each w.if-p-product.true)
      | else-p-product w ↦ rw w.heat-is (anew_even j w.even_heat-heat.result c.requires.each each w.even_heat-heat.ensures)
    ])
    (each_stays j c.requires.each each c.args.self.each each.is_each)
