-- What a token's calls give back.
pub mod Outcome
