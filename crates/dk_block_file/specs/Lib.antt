pub mod Blocks
pub mod Calls
pub mod Current
pub mod Effects
pub mod Flips
pub mod Lending
