pub mod SortLemmas
pub mod OrderLemmas
pub mod LimitLemmas
pub mod GroupLemmas
pub mod DirectLemmas
