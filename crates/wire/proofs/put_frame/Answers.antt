-- `wire::put_frame` meets its contract: where the bytes fit, its stores make their frame.
use Rattle.std.specs.Prelude.{◌≡◌, ◌+◌, ◌/◌, ◌%◌, length}
use native.Mathlib.Omega.{arith}
use borrow.Author.Tests.{le-leb}
use Rattle.wire.specs.Wire.{frame_fits, put_frame_output}
use Rattle.wire.proofs.Frame.{framed}
use Rattle.wire.proofs.put_frame.Goals as goal

pub returns-clause-out_after : goal.returns-clause-out_after
unfolding put_frame_output frame_fits
returns-clause-out_after c =
    let o = c.args.out.now in
    let p = c.args.p.now in
    let check = c.check_value-check.result in
    let high : check / 256 % 256 ≡ check / 256 = omega arith in
    let copied : c.copy_from_slice.new.self ≡ p = c.copy_from_slice.ensures.after in
    let few = le-leb (length p) 252 (omega arith) in
    let room = le-leb (length p + 3) (length o) (omega arith) in
    let sum = rw copied at c.check_value-check.ensures in
    rw (copied, c.copy_from_slice-2.ensures.after, c.to_le_bytes.ensures, high, few, room) (framed o p check (omega arith) sum)
