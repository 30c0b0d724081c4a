pub mod Numbers
pub mod Fields
pub mod Copied
pub mod Reading
