-- The demands over the bytes that a desk keeps, as statements; their proofs are in proofs/.
pub mod Calls
pub mod Demand1
pub mod Demand3
pub mod Locked
pub mod Incident
pub mod Witnesses
