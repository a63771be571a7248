-- No field is longer than was asked for.
use Rattle.std.proofs.Common.{arith}
use Rattle.messages.proofs.Fields.{part_within}
use Rattle.messages.proofs.mac_digest.Goals as goal

pub add-requires-4 : goal.add-requires-4
add-requires-4 c = omega (arith, part_within)

pub add_if-requires-3 : goal.add_if-requires-3
add_if-requires-3 c = omega (arith, part_within)

pub add-requires-5 : goal.add-requires-5
add-requires-5 c = omega (arith, part_within)

pub add_if-requires-4 : goal.add_if-requires-4
add_if-requires-4 c = omega (arith, part_within)
