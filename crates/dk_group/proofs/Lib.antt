pub mod GroupLemmas
pub mod FillLemmas
