-- The loops' invariants: the first t words are those of the block, and then those of the schedule.
use Rattle.std.proofs.Common.{◌≡◌, ◌-◌, length, take}
use Rattle.digest.specs.Sha256.{schedule_to}
use Rattle.digest.proofs.schedule.Given as goal

abbrev pub invariant-loop-t : goal.invariant-loop-t
invariant-loop-t l = (length l.w ≡ 64) × (take l.t l.w ≡ take l.t l.b)

abbrev pub invariant-loop-t-2 : goal.invariant-loop-t-2
invariant-loop-t-2 l = (length l.w ≡ 64) × (take l.t l.w ≡ schedule_to (l.t - 16) l.fn.b)
