-- The laws that belong to no one function, from the padded message to the digest, and the standard's examples.
pub mod FillLaws
pub mod PaddingLaws
pub mod ScheduleLaws
pub mod RoundLaws
pub mod DigestLaws
pub mod Vectors
