-- The public functions of crate `rows`.
use Rattle.rows.proofs.room.Reads as room
use Rattle.rows.proofs.row_of.Reads as row_of
use Rattle.rows.proofs.slot_bytes.Reads as slot-bytes
use Rattle.rows.proofs.equal_rows.Reads as equal-rows
use Rattle.rows.proofs.xor_row.Reads as xor-row
use Rattle.promises.proofs.Fixed.{Fixed, fixed}

pub room_fixed : Fixed room.Pre room.Post
room_fixed = fixed

pub row_of_fixed : Fixed row_of.Pre row_of.Post
row_of_fixed = fixed

pub slot_bytes_fixed : Fixed slot-bytes.Pre slot-bytes.Post
slot_bytes_fixed = fixed

pub equal_rows_fixed : Fixed equal-rows.Pre equal-rows.Post
equal_rows_fixed = fixed

pub xor_row_fixed : Fixed xor-row.Pre xor-row.Post
xor_row_fixed = fixed
