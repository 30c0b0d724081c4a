pub mod Headers
pub mod Readings
pub mod Blocks
pub mod Pages
pub mod Tree
pub mod Owners
pub mod Rows
