pub mod Sorted
pub mod Order
pub mod Kept
pub mod Groups
pub mod Selected
pub mod Laws
pub mod Direct
