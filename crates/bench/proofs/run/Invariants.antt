-- Each turn prints one record's line; what is left of the input gets less.
use Prim.Native.Nat.{◌≤◌, ◌-◌}
use lib.ListN.{length}
use Rattle.bench.proofs.Left.{Left}
use Rattle.bench.proofs.run.Given as goal

abbrev pub invariant-loop-at : goal.invariant-loop-at
invariant-loop-at l = (l.at ≤ length l.input) × Left l.input l.initial.out l.told.token l.out l.told.used l.at

abbrev pub decreases-loop-at : goal.decreases-loop-at
decreases-loop-at l = length l.input - l.at
