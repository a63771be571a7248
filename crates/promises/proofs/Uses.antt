-- The public functions of crate `uses`.
use Rattle.uses.proofs.use_left.Reads as use-left
use Rattle.uses.proofs.spend_use.Reads as spend-use
use Rattle.promises.proofs.Fixed.{Fixed, fixed}

pub use_left_fixed : Fixed use-left.Pre use-left.Post
use_left_fixed = fixed

pub spend_use_fixed : Fixed spend-use.Pre spend-use.Post
spend_use_fixed = fixed
