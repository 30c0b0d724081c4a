pub mod NumberLemmas
pub mod TextLemmas
pub mod ListLemmas
pub mod OperandLemmas
mod QuotedLemmas
mod FoundLemmas
mod LawfulValueLemmas
mod LawfulExprLemmas
pub mod LawfulLemmas
