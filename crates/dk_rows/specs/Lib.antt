pub mod Cells
pub mod Parts
pub mod Slots
pub mod Values
pub mod Equal
