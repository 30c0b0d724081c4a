pub mod FrontLemmas
pub mod FromLemmas
