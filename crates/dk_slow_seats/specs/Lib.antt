pub mod Seats
pub mod Folds
