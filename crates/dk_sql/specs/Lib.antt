pub mod Readers
pub mod Tokens
pub mod Lists
pub mod Expressions
pub mod Queries
pub mod Statements
