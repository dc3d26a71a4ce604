-- `flags::flags_in` meets its contract (01, The four calls). The loop's invariant: the places passed are done.
use Rattle.std.proofs.Common.{refl, false, replicate}
use Rattle.std.proofs.lemmas.List.{length-replicate}
use Rattle.lent_tank.specs.Flags.{flag_in}
use Rattle.lent_tank.proofs.Places.{mapped_next, mapped_end}
use Rattle.lent_tank.proofs.flags.flags_in.Goals as goal

pub loop-i-init : goal.loop-i-init
loop-i-init g c = refl

pub loop-i-preserved : goal.loop-i-preserved
loop-i-preserved g c =
    let e = mapped_next flag_in 0 c.args.bytes.now (replicate g.row.N false) c.loop-i.flags g.row.N c.told-bytes (length-replicate g.row.N false) c.loop-i.i c.loop-i-test.true c.loop-i.invariant in
    rw c.flag_in.ensures e

pub returns : goal.returns
returns g c =
    mapped_end flag_in 0 c.args.bytes.now (replicate g.row.N false) c.loop-i.flags g.row.N c.told-bytes (length-replicate g.row.N false) c.loop-i.i c.loop-i-test.false c.loop-i.invariant
