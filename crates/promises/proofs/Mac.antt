-- The public functions of crate `mac`.
use Rattle.mac.proofs.uses_temp_key.Reads as uses-temp-key
use Rattle.mac.proofs.draws_key.Reads as draws-key
use Rattle.mac.proofs.first_row.Reads as first-row
use Rattle.mac.proofs.second_row.Reads as second-row
use Rattle.mac.proofs.mac.Reads as mac
use Rattle.promises.proofs.Fixed.{Fixed, fixed}

pub uses_temp_key_fixed : Fixed uses-temp-key.Pre uses-temp-key.Post
uses_temp_key_fixed = fixed

pub draws_key_fixed : Fixed draws-key.Pre draws-key.Post
draws_key_fixed = fixed

pub first_row_fixed : Fixed first-row.Pre first-row.Post
first_row_fixed = fixed

pub second_row_fixed : Fixed second-row.Pre second-row.Post
second_row_fixed = fixed

pub mac_fixed : Fixed mac.Pre mac.Post
mac_fixed = fixed
