pub mod Names
pub mod Columns
