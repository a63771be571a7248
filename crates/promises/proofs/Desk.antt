-- The functions of crate `desk`, which desk_c exports: the result, and the state, the output (or the block) and the length that are lent to them.
use Rattle.desk.proofs.chhutirok_fresh.Reads as chhutirok-fresh
use Rattle.desk.proofs.chhutirok_wake.Reads as chhutirok-wake
use Rattle.desk.proofs.chhutirok_idle.Reads as chhutirok-idle
use Rattle.desk.proofs.chhutirok_sleep.Reads as chhutirok-sleep
use Rattle.desk.proofs.chhutirok_block.Reads as chhutirok-block
use Rattle.desk.proofs.chhutirok_frame.Reads as chhutirok-frame
use Rattle.desk.proofs.chhutirok_version.Reads as chhutirok-version
use Rattle.promises.proofs.Fixed.{Fixed, FixedLent, FixedLentTwo, FixedLents, fixed, fixed_lent, fixed_lent_two, fixed_lents}

pub chhutirok_fresh_fixed : FixedLent chhutirok-fresh.Pre chhutirok-fresh.Post (λ κs l. l.1.0.now)
chhutirok_fresh_fixed = fixed_lent

pub chhutirok_wake_fixed : FixedLents chhutirok-wake.Pre chhutirok-wake.Post (λ κs l. l.0.now) (λ κs l. l.1.1.0.now) (λ κs l. l.1.1.1.0.now)
chhutirok_wake_fixed = fixed_lents

pub chhutirok_idle_fixed : FixedLents chhutirok-idle.Pre chhutirok-idle.Post (λ κs l. l.0.now) (λ κs l. l.1.1.0.now) (λ κs l. l.1.1.1.0.now)
chhutirok_idle_fixed = fixed_lents

pub chhutirok_sleep_fixed : FixedLents chhutirok-sleep.Pre chhutirok-sleep.Post (λ κs l. l.0.now) (λ κs l. l.1.1.0.now) (λ κs l. l.1.1.1.0.now)
chhutirok_sleep_fixed = fixed_lents

pub chhutirok_block_fixed : FixedLents chhutirok-block.Pre chhutirok-block.Post (λ κs l. l.0.now) (λ κs l. l.1.1.1.0.now) (λ κs l. l.1.1.1.1.0.now)
chhutirok_block_fixed = fixed_lents

pub chhutirok_frame_fixed : FixedLentTwo chhutirok-frame.Pre chhutirok-frame.Post (λ κs l. l.1.1.1.1.0.now) (λ κs l. l.1.1.1.1.1.0.now)
chhutirok_frame_fixed = fixed_lent_two

pub chhutirok_version_fixed : Fixed chhutirok-version.Pre chhutirok-version.Post
chhutirok_version_fixed = fixed
