-- `text::put_all` meets its contract. The loop's invariant: the texts of the first items are put.
use Rattle.std.proofs.Common.{◌≡◌, ◌+◌, ◌*◌, arith}
use Rattle.job_lines.specs.Put.{texts, writes_nothing, writes_then}
use Rattle.job_lines.proofs.Texts.{texts_next}
use Rattle.job_lines.proofs.text.put_all.Goals as goal

pub loop-x-init : goal.loop-x-init
unfolding texts
loop-x-init g c = record { within = omega arith; writes = writes_nothing _ }

pub loop-x-preserved : goal.loop-x-preserved
loop-x-preserved g c =
    let at = c.loop-x in
    let e : g.T.Put.most * (at.x-index + 1) ≡ g.T.Put.most * at.x-index + g.T.Put.most = omega arith in
    record {
      within = omega (arith, at.invariant.within, c.put.ensures.within);
      writes = rw (texts_next g.T.Put.text c.args.items.now at.x-index c.x-item.result c.loop-x-test.true (c.x-item.is)) (writes_then at.invariant.writes c.put.ensures.puts);
    }
