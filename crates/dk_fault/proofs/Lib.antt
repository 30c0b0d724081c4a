pub mod CauseLemmas
pub mod SumLemmas
