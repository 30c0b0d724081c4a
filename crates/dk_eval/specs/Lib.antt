pub mod Values
pub mod Aggregates
pub mod AggregateLaws
