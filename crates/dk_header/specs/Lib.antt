pub mod Layout
pub mod LogLayout
