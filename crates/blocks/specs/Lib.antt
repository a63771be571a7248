-- Blocks that a caller sends.
pub mod Blocks
