-- `flags::bytes_of` meets its contract (01, The four calls). The loop's invariant: the places passed are done.
use Rattle.std.proofs.Common.{◌≡◌, map}
use Rattle.numeric.specs.Copy.{copied}
use Rattle.lent_tank.specs.Flags.{byte_of}
use Rattle.lent_tank.proofs.flags.bytes_of.Given as goal

abbrev pub invariant-loop-i : goal.invariant-loop-i
invariant-loop-i g l = l.bytes ≡ copied l.i (map byte_of l.flags) l.initial.bytes
