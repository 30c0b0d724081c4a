pub mod Plain
pub mod Dictionary
