pub mod Chains
pub mod Effects
