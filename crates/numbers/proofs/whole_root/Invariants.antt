-- `numbers::whole_root`: the root so far is above 0 and at or above the whole root. The measure is the root so far.
use Rattle.std.proofs.Common.{◌+◌, ◌*◌, ◌^◌, ◌<◌}
use Rattle.numbers.proofs.whole_root.Given as goal

abbrev pub invariant-loop-root : goal.invariant-loop-root
invariant-loop-root l = (0 < l.root) × (l.root < 2 ^ 63) × (l.n < (l.root + 1) * (l.root + 1))

abbrev pub decreases-loop-root : goal.decreases-loop-root
decreases-loop-root l = l.root
