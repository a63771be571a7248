-- The public functions of crate `replies`.
use Rattle.replies.proofs.status_byte.Reads as status-byte
use Rattle.replies.proofs.emptied_key.Reads as emptied-key
use Rattle.replies.proofs.ended.Reads as ended
use Rattle.replies.proofs.said.Reads as said
use Rattle.replies.proofs.taken_key.Reads as taken-key
use Rattle.replies.proofs.answered.Reads as answered
use Rattle.promises.proofs.Fixed.{Fixed, fixed}

pub status_byte_fixed : Fixed status-byte.Pre status-byte.Post
status_byte_fixed = fixed

pub emptied_key_fixed : Fixed emptied-key.Pre emptied-key.Post
emptied_key_fixed = fixed

pub ended_fixed : Fixed ended.Pre ended.Post
ended_fixed = fixed

pub said_fixed : Fixed said.Pre said.Post
said_fixed = fixed

pub taken_key_fixed : Fixed taken-key.Pre taken-key.Post
taken_key_fixed = fixed

pub answered_fixed : Fixed answered.Pre answered.Post
answered_fixed = fixed
