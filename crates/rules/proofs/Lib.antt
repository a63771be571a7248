-- Laws of the rules, for proofs to cite.
pub mod Tests
pub mod Masks
pub mod Rows
pub mod Uses
pub mod Stores
pub mod Shapes
pub mod Settle
pub mod Answers
