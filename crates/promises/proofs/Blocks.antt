-- The public function of crate `blocks`.
use Rattle.blocks.proofs.put_block.Reads as put-block
use Rattle.promises.proofs.Fixed.{FixedLent, fixed_lent}

pub put_block_fixed : FixedLent put-block.Pre put-block.Post (λ κs l. l.1.1.1.1.0.now)
put_block_fixed = fixed_lent
