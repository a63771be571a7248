-- Laws of shape and conditions, for the proofs to cite.
pub mod Fits
