-- After i turns the first i bytes are copied; as many are copied as there are, up to 32.
use mathlib.Core.Path.{◌∙◌}
use native.Mathlib.Omega.{arith}
use lib.ListN.{length, drop}
use lib.Seq.{paste-zero}
use Rattle.rules.specs.Words.{zeros}
use Rattle.rows.proofs.Row.{fitting_min, row_more, row_copied}
use Rattle.rows.proofs.row_of.Goals as goal

pub loop-i-init : goal.loop-i-init
loop-i-init c =
    let a = c.args in
    let e = fitting_min (length a.s.now) a.at a.n in
    (omega (arith, e, c.room.ensures, c.min-count.ensures), paste-zero (zeros 32) 0 (drop a.at a.s.now))

pub loop-i-preserved : goal.loop-i-preserved
loop-i-preserved c =
    let a = c.args in
    (c.loop-i.invariant.0, cc (row_more (zeros 32) a.s.now a.at c.loop-i.i (omega arith) (omega arith)))

pub returns : goal.returns
returns c =
    let a = c.args in
    c.loop-i.invariant.1 ∙ row_copied a.s.now a.at a.n c.loop-i.i (omega arith)
