pub mod Bodies
pub mod Segment
pub mod Choice
pub mod Profile
pub mod Masked
