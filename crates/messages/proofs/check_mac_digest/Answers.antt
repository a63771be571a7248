-- No field is longer than was asked for.
use Rattle.std.proofs.Common.{arith}
use Rattle.messages.proofs.Fields.{part_within}
use Rattle.messages.proofs.check_mac_digest.Goals as goal

pub add-requires-6 : goal.add-requires-6
add-requires-6 c = omega (arith, part_within)

pub add-requires-7 : goal.add-requires-7
add-requires-7 c = omega (arith, part_within)

pub add-requires-8 : goal.add-requires-8
add-requires-8 c = omega (arith, part_within)
