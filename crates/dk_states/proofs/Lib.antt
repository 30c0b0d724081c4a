pub mod EntryLemmas
pub mod StoredLemmas
