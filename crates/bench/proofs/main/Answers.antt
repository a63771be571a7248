-- What is printed has room, and all of it is written.
use Rattle.std.proofs.Common.{◌≡◌, sym, length, take, arith}
use lib.Seq.{length-take-le}
use Rattle.bench.specs.Bench.{printed}
use Rattle.bench.proofs.Room.{printed_short}
use Rattle.bench.proofs.main.Goals as goal

pub print-used-requires : goal.print-used-requires
print-used-requires c = rw c.room_of-out.ensures (printed_short _)

pub slice_bounds-out-end : goal.slice_bounds-out-end
slice_bounds-out-end c =
    let input = take c.in_ok-n.n c.read_full.new.room in
    let all : c.print-used.result ≡ length (printed input) = c.print-used.ensures.value in
    omega (arith, printed_short input, c.room_of-out.ensures, c.print-used.auto.out)

pub slice_bounds-write_all-end : goal.slice_bounds-write_all-end
slice_bounds-write_all-end c =
    let input = take c.in_ok-n.n c.read_full.new.room in
    let all : c.print-used.result ≡ length (printed input) = c.print-used.ensures.value in
    sym (length-take-le _ _ (omega (arith, printed_short input, c.room_of-out.ensures, c.print-used.auto.out)))
