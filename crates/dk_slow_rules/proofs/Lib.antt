pub mod ListLemmas
pub mod PlaceLemmas
pub mod CommitLemmas
pub mod StandLemmas
pub mod RuleLemmas
