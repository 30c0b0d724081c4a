pub mod Outcomes
pub mod Lists
pub mod Expressions
pub mod Queries
pub mod Statements
pub mod Laws
