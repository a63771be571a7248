-- Proofs of the demands over a desk's bytes.
-- The layout's parts. A state stays a state, and a run of C calls is a run of calls on its token; what a number tells; an answer's length.
pub mod Parts
pub mod Carried
pub mod Numbers
pub mod Lengths
-- Demand 1.
pub mod Demand1
-- Demand 3, and its last sentence.
pub mod AlikeBytes
pub mod SameBytes
pub mod Locked
-- The incident.
pub mod Incident
-- That they are not empty.
pub mod Witnesses
