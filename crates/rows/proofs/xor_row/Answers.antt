-- Each byte is that of the one row XOR the other's.
use Rattle.std.proofs.Common.{rules}
use Rattle.std.specs.Int.Bits.{bit_xor}
use Rattle.rules.proofs.Rows.{made_zip}
use Rattle.rows.proofs.xor_row.Goals as goal

pub returns : goal.returns
returns c =
    made_zip _ bit_xor _ c.args.a c.args.b (λ i y t called. search rules) c.from_fn.result (search rules) (search rules) c.from_fn.ensures.items
