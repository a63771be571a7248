-- The public function of crate `read`.
use Rattle.read.proofs.read.Reads as read
use Rattle.promises.proofs.Fixed.{Fixed, fixed}

pub read_fixed : Fixed read.Pre read.Post
read_fixed = fixed
