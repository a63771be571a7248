-- Laws of addresses, for the proofs of Read and Write to cite.
pub mod Within
