-- The parts fit or not; where they fit, one is stored after the other.
use Rattle.std.proofs.Common.{◌≡◌, ◌+◌, ◌++◌, length, length-append, refl, arith}
use Rattle.records.proofs.Put.{not_put, put, both_written}
use Rattle.records.proofs.lines.put_text.Goals as goal

pub returns-then-room-a : goal.returns-then-room-a
returns-then-room-a c =
    let x = c.args in
    let n : length (x.a.now ++ x.b.now) ≡ length x.a.now + length x.b.now = length-append x.a.now x.b.now in
    not_put x.room.now 0 (x.a.now ++ x.b.now) (grind arith)

pub returns : goal.returns
returns c =
    let x = c.args in
    let n : length (x.a.now ++ x.b.now) ≡ length x.a.now + length x.b.now = length-append x.a.now x.b.now in
    put x.room.now 0 (x.a.now ++ x.b.now) (omega arith) (omega arith)
    (both_written x.room.now x.a.now x.b.now c.copy_from_slice.ensures.after c.copy_from_slice-2.ensures.after refl (omega arith))
