-- Each byte is that of the one row AND the other's.
use Rattle.std.proofs.Common.{rules}
use Rattle.std.specs.Int.Bits.{bit_and}
use Rattle.rules.proofs.Rows.{made_zip}
use Rattle.write.proofs.and_row.Goals as goal

pub returns : goal.returns
returns c =
    let made = c.from_fn in
    made_zip _ bit_and _ c.args.a c.args.b (λ i y t called. search rules) made.result (search rules) (search rules) made.ensures.items
