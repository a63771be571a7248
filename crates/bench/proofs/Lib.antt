-- Laws of what a record gives, of the line told for it, of what is left to print, of how long the lines are; and the lines as runs of calls.
pub mod Given
pub mod Line
pub mod Left
pub mod Room
pub mod Steps
pub mod Runs
