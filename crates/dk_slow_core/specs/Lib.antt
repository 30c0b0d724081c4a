pub mod Moves
pub mod Outcomes
pub mod Reads
pub mod Code
