-- The public function of crate `gen_dig`.
use Rattle.gen_dig.proofs.gen_dig.Reads as gen-dig
use Rattle.promises.proofs.Fixed.{Fixed, fixed}

pub gen_dig_fixed : Fixed gen-dig.Pre gen-dig.Post
gen_dig_fixed = fixed
