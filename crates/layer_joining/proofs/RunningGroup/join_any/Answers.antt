-- `RunningGroup::join_any` meets its contract (01, Mix): the heat is gone on with where the temperature is what it was, and otherwise worked anew.
use Rattle.std.proofs.Common.{rules, sym}
use Rattle.layer_joining.proofs.Joined.{Join, follows, kept_level, each_with}
use Rattle.layer_joining.proofs.Joining.{term_sum}
use Rattle.layer_joining.proofs.RunningGroup.join_any.Goals as goal
use Rattle.layer_joining.proofs.RunningGroup.join_any.Goals.{then-temp-self, else-temp-self}

pub returns : goal.returns
returns c =
    let j : Join = record {
      vol = c.args.vol.now;
      next = c.args.next;
      r = c.args.self;
      sum = c.add_term-sum.result;
      volume = c.args.volume;
      s = c.total_of.result;
      t = c.total_of-2.result;
      warms = record {
        any = c.requires;
        sum_s = term_sum c.args.self.heat c.add_term-sum.result _ c.add_term-sum.ensures;
        sum_is = λ f. c.add_term-sum.ensures;
        total_is = λ f. sym c.total_of.ensures;
      };
      volume_total = c.total_of-2.ensures;
      volume_fits = search rules;
    } in
    follows j c.if-temp-self.heat c.each_with.result
    (elim c.if-temp-self.branch [
      | then-temp-self w ↦ rw w.heat-is (kept_level j w.add_known-heat.result w.add_known-heat.ensures w.if-temp-self.true)
      | else-temp-self w ↦ rw w.heat-is (λ n first temps b d m f. w.heat_at-heat.ensures)
    ])
    (each_with j c.each_with.result c.each_with.ensures)
