-- `flags::bytes_of` meets its contract (01, The four calls). The loop's invariant: the places passed are done.
use Rattle.std.proofs.Common.{refl, false, replicate}
use Rattle.std.proofs.lemmas.List.{length-replicate}
use Rattle.lent_tank.specs.Flags.{byte_of}
use Rattle.lent_tank.proofs.Places.{mapped_next, mapped_end}
use Rattle.lent_tank.proofs.flags.bytes_of.Goals as goal

pub loop-i-init : goal.loop-i-init
loop-i-init g c = refl

pub loop-i-preserved : goal.loop-i-preserved
loop-i-preserved g c =
    let e = mapped_next byte_of false c.args.flags.now (replicate g.row.N 0) c.loop-i.bytes g.row.N c.told-flags (length-replicate g.row.N 0) c.loop-i.i c.loop-i-test.true c.loop-i.invariant in
    rw c.byte_of.ensures e

pub returns : goal.returns
returns g c =
    mapped_end byte_of false c.args.flags.now (replicate g.row.N 0) c.loop-i.bytes g.row.N c.told-flags (length-replicate g.row.N 0) c.loop-i.i c.loop-i-test.false c.loop-i.invariant
