-- The loops' invariants: the first t words are those of the block, and then those of the schedule.
use Rattle.std.proofs.Common.{refl, arith, rules}
use Rattle.digest.specs.Sha256.{next, schedule_to}
use Rattle.digest.proofs.FillLaws.{take_more, take_done}
use Rattle.digest.proofs.ScheduleLaws.{schedule_more, schedule_done}
use Rattle.digest.proofs.schedule.Goals as goal

pub loop-t-preserved : goal.loop-t-preserved
loop-t-preserved c =
    let turn = c.loop-t in
    (search rules, take_more c.args.b turn.w turn.t (omega arith) (omega arith) refl turn.invariant.1)

pub loop-t-2-init : goal.loop-t-2-init
unfolding schedule_to
loop-t-2-init c =
    let turn = c.loop-t in
    (search rules, take_done c.args.b turn.w turn.t 16 (omega arith) (search rules) turn.invariant.1)

pub loop-t-2-preserved : goal.loop-t-2-preserved
unfolding next
loop-t-2-preserved c =
    let turn = c.loop-t-2 in
    (search rules, schedule_more turn.w c.args.b turn.t (omega arith) (omega arith) c.next.ensures turn.invariant.1)

pub returns : goal.returns
returns c =
    let turn = c.loop-t-2 in
    schedule_done turn.w c.args.b turn.t (omega arith) (omega arith) turn.invariant.1
