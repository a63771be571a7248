-- The public function of crate `check_mac`.
use Rattle.check_mac.proofs.check_mac.Reads as check-mac
use Rattle.promises.proofs.Fixed.{Fixed, fixed}

pub check_mac_fixed : Fixed check-mac.Pre check-mac.Post
check_mac_fixed = fixed
