pub mod Packed
pub mod Above
