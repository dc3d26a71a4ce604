-- `flags::flags_in` meets its contract (01, The four calls). The loop's invariant: the places passed are done.
use Rattle.std.proofs.Common.{◌≡◌, map}
use Rattle.numeric.specs.Copy.{copied}
use Rattle.lent_tank.specs.Flags.{flag_in}
use Rattle.lent_tank.proofs.flags.flags_in.Given as goal

abbrev pub invariant-loop-i : goal.invariant-loop-i
invariant-loop-i g l = l.flags ≡ copied l.i (map flag_in l.bytes) l.initial.flags
