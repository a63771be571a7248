-- A byte that is not zero has a highest one bit, and it is no more than the byte.
use Rattle.rules.proofs.Uses.{highest}
use Rattle.uses.proofs.clear_highest.Goals as goal

pub overflow_sub-result-2 : goal.overflow_sub-result-2
overflow_sub-result-2 c =
    let h = highest c.args.b c.if-b-eq0.false c.ranges.b.fits in
    rw h.shifted h.within
