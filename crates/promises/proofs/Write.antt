-- The public function of crate `write`.
use Rattle.write.proofs.write.Reads as write
use Rattle.promises.proofs.Fixed.{Fixed, fixed}

pub write_fixed : Fixed write.Pre write.Post
write_fixed = fixed
