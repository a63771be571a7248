-- The loop's invariant: the value is the one after i blocks.
use Rattle.std.proofs.Common.{◌≡◌}
use Rattle.digest.specs.Sha256.{pad, words, hash}
use Rattle.digest.proofs.digest.Given as goal

abbrev pub invariant-loop-i : goal.invariant-loop-i
invariant-loop-i l = l.v ≡ hash l.i (words (pad l.m))
