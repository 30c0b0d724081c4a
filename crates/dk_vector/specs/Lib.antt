pub mod Stacks
pub mod HidingLaws
pub mod Vectors
pub mod Changes
pub mod Spare
pub mod Pages
