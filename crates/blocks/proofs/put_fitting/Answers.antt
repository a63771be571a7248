-- `blocks::put_fitting` meets its contract: after i turns the first i bytes of data stand after five places, and its stores make the block.
use Rattle.std.specs.Prelude.{◌≡◌, ◌/◌, ◌%◌, length}
use mathlib.Core.Path.{refl, sym, ◌∙◌}
use native.Mathlib.Numerals.{add-one}
use native.Mathlib.Omega.{arith}
use borrow.Rule.Slice.PartMut.{put_mid}
use lib.ListN.{length-set}
use lib.Seq.{paste-suc}
use Rattle.std.proofs.lemmas.Slice.{put_mid-paste}
use Rattle.blocks.proofs.Framed.{stored}
use Rattle.blocks.proofs.put_fitting.Goals as goal

pub loop-i-preserved : goal.loop-i-preserved
loop-i-preserved c =
    let a = c.args in
    let more = paste-suc a.out.now 5 a.input.now c.loop-i.i 0 (omega arith) (omega arith) in
    (simp length-set c.loop-i.invariant.0, cc (add-one c.loop-i.i, more))

pub returns : goal.returns
returns c =
    let a = c.args in
    let o = a.out.now in
    let input = a.input.now in
    let check = c.check_value-check.result in
    let end : c.loop-i.i ≡ length input = omega arith in
    let copied : c.loop-i.out ≡ put_mid 5 (length input) o input =
    c.loop-i.invariant.1 ∙ rw end (sym (put_mid-paste 5 (length input) o input input (length input) refl refl refl)) in
    let high : a.param2 / 256 % 256 ≡ a.param2 / 256 = omega arith in
    let high_check : check / 256 % 256 ≡ check / 256 = omega arith in
    let header = c.copy_from_slice.ensures.after in
    let sum = rw (copied, header, c.to_le_bytes.ensures, high) at c.check_value-check.ensures in
    rw (copied, header, c.to_le_bytes.ensures, high, c.copy_from_slice-2.ensures.after, c.to_le_bytes-2.ensures, high_check)
    (stored a.opcode a.param1 a.param2 input o (omega arith) sum)
