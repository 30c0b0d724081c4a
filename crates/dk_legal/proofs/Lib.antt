pub mod RefusedSinceLemmas
pub mod OthersLemmas
