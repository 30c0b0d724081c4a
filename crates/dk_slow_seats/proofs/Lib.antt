pub mod ConflictLemmas
pub mod SeatLemmas
