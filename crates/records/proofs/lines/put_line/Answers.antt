-- The line is put in the room at the position.
use Rattle.records.specs.Records.{line_of}
use Rattle.records.proofs.Put.{put_in}
use Rattle.records.proofs.lines.put_line.Goals as goal

pub returns : goal.returns
returns c =
    let x = c.args in
    put_in x.out.now x.at (line_of x.what x.offset x.number x.answer.now) c.min-from.ensures c.put_record.ensures
