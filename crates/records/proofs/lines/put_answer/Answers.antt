-- Name, answer and line feed fit or not; where they fit, each is stored after the other.
use Rattle.std.proofs.Common.{◌≡◌, ◌+◌, ◌*◌, ◌++◌, length, length-append, arith}
use Rattle.records.specs.Records.{ascii, hex}
use Rattle.records.proofs.Put.{length_hex, not_put, put, both_written, ended}
use Rattle.records.proofs.lines.put_answer.Goals as goal

pub returns-then-room-name : goal.returns-then-room-name
returns-then-room-name c =
    let x = c.args in
    let l = x.name.now ++ (hex x.answer.now ++ ascii "\n") in
    let n : length l ≡ length x.name.now + (2 * length x.answer.now + 1) = simp (length-append, length_hex) in
    not_put x.room.now 0 l (grind arith)

pub returns : goal.returns
returns c =
    let x = c.args in
    let a = x.name.now in
    let h = hex x.answer.now in
    let l = a ++ (h ++ ascii "\n") in
    let n : length l ≡ length a + (2 * length x.answer.now + 1) = simp (length-append, length_hex) in
    let m : length h ≡ 2 * length x.answer.now = length_hex x.answer.now in
    let end = length a + 2 * length x.answer.now in
    let both = both_written x.room.now a h {end = end} c.copy_from_slice.ensures.after c.put_hex.ensures (omega arith) (omega arith) in
    put x.room.now 0 l (omega arith) (omega arith) (ended x.room.now a h both (omega arith))
