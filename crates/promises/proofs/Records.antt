-- The public functions of crate `records`.
use Rattle.records.proofs.record_at.Reads as record-at
use Rattle.records.proofs.length_of.Reads as length-of
use Rattle.records.proofs.fields.image_at.Reads as image-at
use Rattle.records.proofs.fields.block_at.Reads as block_at
use Rattle.records.proofs.fields.random_at.Reads as random-at
use Rattle.records.proofs.lines.put_line.Reads as put-line
use Rattle.records.proofs.lines.put_too_long.Reads as put-too-long
use Rattle.promises.proofs.Fixed.{Fixed, FixedLent, FixedSeen, fixed, fixed_lent, fixed_seen}

pub record_at_fixed : Fixed record-at.Pre record-at.Post
record_at_fixed = fixed

pub length_of_fixed : Fixed length-of.Pre length-of.Post
length_of_fixed = fixed

pub image_at_fixed : FixedSeen image-at.Pre image-at.Post (λ κs x. x.now)
image_at_fixed = fixed_seen

pub block_at_fixed : FixedSeen block_at.Pre block_at.Post (λ κs x. x.now)
block_at_fixed = fixed_seen

pub random_at_fixed : FixedSeen random-at.Pre random-at.Post (λ κs x. x.now)
random_at_fixed = fixed_seen

pub put_line_fixed : FixedLent put-line.Pre put-line.Post (λ κs l. l.0.now)
put_line_fixed = fixed_lent

pub put_too_long_fixed : FixedLent put-too-long.Pre put-too-long.Post (λ κs l. l.0.now)
put_too_long_fixed = fixed_lent
