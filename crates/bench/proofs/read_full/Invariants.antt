-- The bytes read are within the room, which each turn fills further.
use Rattle.std.proofs.Common.{◌-◌, ◌≤◌, length}
use Rattle.bench.proofs.read_full.Given as goal

abbrev pub invariant-loop-more : goal.invariant-loop-more
invariant-loop-more g l = l.n ≤ length l.room

abbrev pub decreases-loop-more : goal.decreases-loop-more
decreases-loop-more g l = length l.initial.room - l.n
