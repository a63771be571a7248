-- The public function of crate `digest`.
use Rattle.digest.proofs.digest.Reads as digest
use Rattle.promises.proofs.Fixed.{Fixed, fixed}

pub digest_fixed : Fixed digest.Pre digest.Post
digest_fixed = fixed
