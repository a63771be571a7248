-- What the bench program prints; the same as steps, which are images and calls; and as runs of calls, a statement.
pub mod Bench
pub mod Steps
pub mod Runs
