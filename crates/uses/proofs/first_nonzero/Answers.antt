-- The first of the bytes before LastKeyUse's last that is not zero.
use mathlib.Core.Bool.{not}
use lib.ListN.{take, drop}
use lib.Dec.{eqb}
use Rattle.std.proofs.Common.{rules, tests}
use Rattle.std.proofs.lemmas.Iterator.{YieldsList-from_slice}
use Rattle.std.proofs.lemmas.Iterator.Search.{position_from_yields_List}
use Rattle.uses.proofs.Bytes.{first_placed}
use Rattle.uses.proofs.first_nonzero.Goals as goal

pub returns : goal.returns
returns c =
    let l = c.args.c in
    let e = position_from_yields_List (λ x. not (eqb x 0)) _ _ c.position.result c.position.ensures.ran
    (YieldsList-from_slice (take 15 (drop 68 l)) cc) (λ x b q k. search (rules, tests)) in
    rw (c.unwrap_or.ensures, e) (first_placed l 68 15 (search rules))
