-- The exported function of crate `digest_c`, which gives nothing back but its lent bytes.
use mathlib.Core.Path.{refl}
use Rattle.digest_c.proofs.chhutirok_digest.Reads as chhutirok-digest
use Rattle.promises.proofs.Fixed.{FixedLent, one}

pub chhutirok_digest_fixed : FixedLent chhutirok-digest.Pre chhutirok-digest.Post (λ κs l. l.1.0.now)
chhutirok_digest_fixed = record { total = λ κs a. tt; both = λ κs a x y l m p q. (refl, one p q) }
