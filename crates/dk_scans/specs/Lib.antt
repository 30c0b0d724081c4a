pub mod Selection
pub mod Extremes
