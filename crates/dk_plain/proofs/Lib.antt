pub mod PutLemmas
pub mod CapLemmas
pub mod RunLemmas
