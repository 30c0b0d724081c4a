mod EffectLemmas
pub mod ChainLemmas
mod ReadingLemmas
mod TakingLemmas
mod HoldingLemmas
mod KeepingLemmas
mod PartLemmas
mod WritingLemmas
