-- `report::read_input`: what was read is within the buffer, whose length stays. The measure is the room that is left: a read that adds nothing ends
-- the loop.
use Rattle.std.proofs.Common.{◌≤◌, ◌-◌, length}
use Rattle.report.proofs.read_input.Given as goal

abbrev pub invariant-loop-size : goal.invariant-loop-size
invariant-loop-size l = l.size ≤ length l.log

abbrev pub decreases-loop-size : goal.decreases-loop-size
decreases-loop-size l = length l.log - l.size
