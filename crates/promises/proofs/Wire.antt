-- The public functions of crate `wire`.
use Rattle.wire.proofs.check_value.Reads as check-value
use Rattle.wire.proofs.put_frame.Reads as put_frame
use Rattle.wire.proofs.put.Reads as put
use Rattle.wire.proofs.is_whole.Reads as is_whole
use Rattle.promises.proofs.Fixed.{Fixed, FixedLent, fixed, fixed_lent}

pub check_value_fixed : Fixed check-value.Pre check-value.Post
check_value_fixed = fixed

pub put_frame_fixed : FixedLent put_frame.Pre put_frame.Post (λ κs l. l.0.now)
put_frame_fixed = fixed_lent

pub put_fixed : FixedLent put.Pre put.Post (λ κs l. l.0.now)
put_fixed = fixed_lent

pub is_whole_fixed : Fixed is_whole.Pre is_whole.Post
is_whole_fixed = fixed
