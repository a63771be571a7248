-- The public functions of crate `messages`.
use Rattle.messages.proofs.header_of.Reads as header_of
use Rattle.messages.proofs.nonce_digest.Reads as nonce-digest
use Rattle.messages.proofs.layout96_digest.Reads as layout96-digest
use Rattle.messages.proofs.parent_digest.Reads as parent-digest
use Rattle.messages.proofs.mac_digest.Reads as mac-digest
use Rattle.messages.proofs.check_mac_digest.Reads as check-mac-digest
use Rattle.promises.proofs.Fixed.{Fixed, fixed}

pub header_of_fixed : Fixed header_of.Pre header_of.Post
header_of_fixed = fixed

pub nonce_digest_fixed : Fixed nonce-digest.Pre nonce-digest.Post
nonce_digest_fixed = fixed

pub layout96_digest_fixed : Fixed layout96-digest.Pre layout96-digest.Post
layout96_digest_fixed = fixed

pub parent_digest_fixed : Fixed parent-digest.Pre parent-digest.Post
parent_digest_fixed = fixed

pub mac_digest_fixed : Fixed mac-digest.Pre mac-digest.Post
mac_digest_fixed = fixed

pub check_mac_digest_fixed : Fixed check-mac-digest.Pre check-mac-digest.Post
check_mac_digest_fixed = fixed
