-- The digits that are lent are the offset's, and a line feed.
use Rattle.records.proofs.Decimal.{printed}
use Rattle.records.proofs.lines.put_bad.Goals as goal

pub returns : goal.returns
returns c =
    let n = c.args.offset in
    let e = printed n c.zeros_in_front.ensures c.digit.ensures c.digit-2.ensures c.digit-3.ensures c.digit-4.ensures c.digit-5.ensures in
    rw e at c.put_text.ensures
