-- A field is below 2 ^ 16, so that a bit from 16 on is zero.
use Rattle.std.proofs.Common.{rules}
use Rattle.rules.proofs.Tests.{bit_none}
use Rattle.config.proofs.bit.Goals as goal

pub returns-else-n-lt-BITS : goal.returns-else-n-lt-BITS
returns-else-n-lt-BITS c = rw (bit_none c.args.n c.args.x 16 (search rules) (search rules)) (search rules)
