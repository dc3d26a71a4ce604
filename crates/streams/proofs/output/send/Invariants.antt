-- The loop of `output::send`: no byte is counted that the text does not have, and each write takes a byte at least, or leaves a try fewer for the rest.
use Rattle.std.proofs.Common.{◌+◌, ◌-◌, ◌*◌, ◌≤◌, length}
use Rattle.streams.proofs.output.send.Given as goal

abbrev pub invariant-loop-count : goal.invariant-loop-count
invariant-loop-count g l = l.count ≤ length l.text

abbrev pub decreases-loop-count : goal.decreases-loop-count
decreases-loop-count g l = (length l.text - l.count) * 8640001 + l.tries.left
