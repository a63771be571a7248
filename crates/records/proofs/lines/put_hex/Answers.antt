-- What is left to store, stored, makes the whole.
use Rattle.std.proofs.Common.{◌≡◌, ◌*◌, length, length-set, sym, ◌∙◌, arith}
use Rattle.std.proofs.Math.Nat.{mul-add}
use Rattle.std.proofs.Math.Seq.{drop-length}
use Rattle.records.specs.Records.{hex}
use Rattle.records.proofs.Put.{hex_turn, whole_hex}
use Rattle.records.proofs.lines.put_hex.Goals as goal

pub loop-i-init : goal.loop-i-init
loop-i-init c = (omega arith, whole_hex c.args.out.now c.args.s.now (omega arith))

pub loop-i-preserved : goal.loop-i-preserved
loop-i-preserved c =
    let l = c.loop-i in
    let turn = hex_turn l.out c.args.s.now (2 * l.i) l.i (omega arith) in
    (simp length-set l.invariant.0, rw (c.hex_digit.ensures, c.hex_digit-in-loop-i.ensures, mul-add 2 l.i 1) (sym turn ∙ l.invariant.1))

pub returns : goal.returns
unfolding hex
returns c =
    let l = c.loop-i in
    let s = c.args.s.now in
    let all : l.i ≡ length s = omega arith in
    rw (all, drop-length s) at l.invariant.1
