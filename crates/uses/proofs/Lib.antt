-- Laws of uses.
pub mod Bytes
