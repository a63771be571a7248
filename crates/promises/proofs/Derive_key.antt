-- The public function of crate `derive_key`.
use Rattle.derive_key.proofs.derive_key.Reads as derive-key
use Rattle.promises.proofs.Fixed.{Fixed, fixed}

pub derive_key_fixed : Fixed derive-key.Pre derive-key.Post
derive_key_fixed = fixed
