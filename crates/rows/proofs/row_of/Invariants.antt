-- After i turns the first i bytes are copied; as many are copied as there are, up to 32.
use Prim.Native.Nat.{◌-◌, min}
use mathlib.Core.Path.{◌≡◌}
use lib.ListN.{length, drop}
use lib.Seq.{paste}
use Rattle.rules.specs.Words.{zeros}
use Rattle.rows.proofs.row_of.Given as goal

abbrev pub invariant-loop-i : goal.invariant-loop-i
invariant-loop-i l = (l.count ≡ min (min l.n (length l.s - l.at)) 32) × (l.b ≡ paste (zeros 32) 0 (drop l.at l.s) l.i)
