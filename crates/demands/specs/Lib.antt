-- The demands of the minutes, item 4, and the soundings of document 01 as statements; their proofs are in proofs/.
pub mod Calls
pub mod Demand1
pub mod Demand3
pub mod Locked
pub mod Incident
pub mod Soundings
pub mod WellFormed
pub mod Refusals
pub mod Witnesses
