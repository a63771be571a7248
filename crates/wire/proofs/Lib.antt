-- The laws that belong to no one function: Cases, Xor and Laws are also for the crates above.
pub mod Cases
pub mod Xor
pub mod Reversed
pub mod Register
pub mod Frame
pub mod Laws
pub mod Vectors
