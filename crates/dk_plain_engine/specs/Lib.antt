pub mod Still
pub mod Turns
pub mod Held
pub mod Now
pub mod Outcomes
pub mod Stands
