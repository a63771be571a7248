-- The public functions of crate `upkeep`.
use Rattle.upkeep.proofs.lock.Reads as lock
use Rattle.upkeep.proofs.update_extra.Reads as update-extra
use Rattle.upkeep.proofs.dev_rev.Reads as dev-rev
use Rattle.promises.proofs.Fixed.{Fixed, fixed}

pub lock_fixed : Fixed lock.Pre lock.Post
lock_fixed = fixed

pub update_extra_fixed : Fixed update-extra.Pre update-extra.Post
update_extra_fixed = fixed

pub dev_rev_fixed : Fixed dev-rev.Pre dev-rev.Post
dev_rev_fixed = fixed
