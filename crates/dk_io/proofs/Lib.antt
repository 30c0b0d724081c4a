pub mod LineLemmas
pub mod ReaderLemmas
pub mod WindowLemmas
pub mod WriteLemmas
pub mod PassLemmas
pub mod CallLemmas
