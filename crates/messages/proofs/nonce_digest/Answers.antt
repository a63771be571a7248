-- No field is longer than was asked for.
use Rattle.std.proofs.Common.{arith}
use Rattle.messages.proofs.Fields.{part_within}
use Rattle.messages.proofs.nonce_digest.Goals as goal

pub add-requires-3 : goal.add-requires-3
add-requires-3 c = omega (arith, part_within)
