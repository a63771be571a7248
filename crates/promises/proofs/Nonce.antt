-- The public functions of crate `nonce`.
use Rattle.nonce.proofs.nonce.Reads as nonce
use Rattle.nonce.proofs.random.Reads as random
use Rattle.promises.proofs.Fixed.{Fixed, fixed}

pub nonce_fixed : Fixed nonce.Pre nonce.Post
nonce_fixed = fixed

pub random_fixed : Fixed random.Pre random.Post
random_fixed = fixed
