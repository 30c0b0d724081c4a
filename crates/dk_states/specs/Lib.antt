pub mod Entries
pub mod Means
