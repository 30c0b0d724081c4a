pub mod Codes
pub mod Nets
pub mod Texts
