-- The public functions of crate `token`.
use Rattle.token.proofs.number_of.Reads as number_of_lem
use Rattle.token.proofs.front.Reads as front
use Rattle.token.proofs.Token.wake.Reads as wake
use Rattle.token.proofs.Token.idle.Reads as idle
use Rattle.token.proofs.Token.sleep.Reads as sleep
use Rattle.token.proofs.Token.block.Reads as block
use Rattle.token.proofs.fresh.fresh.Reads as fresh
use Rattle.promises.proofs.Fixed.{Fixed, FixedLent, FixedSeen, fixed, fixed_lent, fixed_seen}

pub number_of_fixed : Fixed number_of_lem.Pre number_of_lem.Post
number_of_fixed = fixed

pub front_fixed : FixedSeen front.Pre front.Post (λ κs x. x.now)
front_fixed = fixed_seen

pub wake_fixed : FixedLent wake.Pre wake.Post (λ κs l. l.1.1.0.now)
wake_fixed = fixed_lent

pub idle_fixed : FixedLent idle.Pre idle.Post (λ κs l. l.1.1.0.now)
idle_fixed = fixed_lent

pub sleep_fixed : FixedLent sleep.Pre sleep.Post (λ κs l. l.1.1.0.now)
sleep_fixed = fixed_lent

pub block_fixed : FixedLent block.Pre block.Post (λ κs l. l.1.1.1.0.now)
block_fixed = fixed_lent

pub fresh_fixed : Fixed fresh.Pre fresh.Post
fresh_fixed = fixed
