-- That the stores of a block make the frame of its header and data, what its length tells, and how a block that was put is read.
pub mod Framed
pub mod Fits
pub mod Sent
