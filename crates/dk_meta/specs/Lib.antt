pub mod Strings
pub mod Chain
pub mod Segments
pub mod Page
pub mod Tree
