-- Proofs of the demands.
-- Shared: what a call gives, and where commands store.
pub mod Calling
pub mod Stores
-- A state stays a state.
pub mod Lengths
pub mod WellFormed
-- Demand 1.
pub mod Demand1
-- Demand 3: slots that are not drawn on; two data zones equal beside a slot; then commands, events, calls and runs over them.
pub mod Draws
pub mod Beside
pub mod KeyPlans
pub mod ReadPlans
pub mod SamePlans
pub mod Keeping
pub mod SameTurns
pub mod SameCalls
pub mod SameRuns
-- That it is not empty, and that all it supposes is needed. That demand 1 is not.
pub mod Witnesses
pub mod Refusals
-- Its last sentence.
pub mod Locked
-- The incident: which commands use TempKey, and who fills it.
pub mod TempKey
pub mod Incident
-- The soundings.
pub mod Soundings
