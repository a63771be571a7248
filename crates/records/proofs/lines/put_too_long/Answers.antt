-- The line is put in the room at the position.
use Rattle.records.specs.Records.{too_long}
use Rattle.records.proofs.Put.{put_in}
use Rattle.records.proofs.lines.put_too_long.Goals as goal

pub returns : goal.returns
returns c = put_in c.args.out.now c.args.at too_long c.min-from.ensures c.put_text.ensures
