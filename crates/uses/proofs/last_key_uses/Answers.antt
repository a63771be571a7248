-- Sixteen counts of ones fit a sum.
use native.Mathlib.Omega.{arith}
use lib.ListN.{take, drop}
use Rattle.std.proofs.Common.{rules, tests}
use Rattle.std.proofs.lemmas.Iterator.{YieldsList-from_slice}
use Rattle.std.proofs.lemmas.Iterator.Adapters.{fits_from_length, at_most_from_yields_List}
use Rattle.uses.proofs.last_key_uses.Goals as goal

pub sum-requires-clause-fits : goal.sum-requires-clause-fits
sum-requires-clause-fits c =
    fits_from_length _ _ 16 _ (at_most_from_yields_List (YieldsList-from_slice (take 16 (drop 68 c.args.c)) cc) (search rules)) c.map.ensures.closure
    (omega arith) (λ x r q k. search (rules, tests))
