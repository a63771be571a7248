-- The records that the bench program reads, and the lines that it prints.
pub mod Records
