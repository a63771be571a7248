-- The desk's C interface.
pub mod Desk
