-- The loop of `input::fill`: no byte is counted that the buffer does not have, and each read brings a byte at least, or leaves a try fewer for the rest.
use Rattle.std.proofs.Common.{◌+◌, ◌-◌, ◌*◌, ◌≤◌, length}
use Rattle.streams.proofs.input.fill.Given as goal

abbrev pub invariant-loop-count : goal.invariant-loop-count
invariant-loop-count g l = l.count ≤ length l.buf

abbrev pub decreases-loop-count : goal.decreases-loop-count
decreases-loop-count g l = (length l.buf - l.count) * 8640001 + l.tries.left
