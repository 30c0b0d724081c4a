pub mod FlagLemmas
pub mod UsedLemmas
