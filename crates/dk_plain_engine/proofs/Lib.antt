pub mod HolderLemmas
pub mod OutcomeLemmas
pub mod LackLemmas
pub mod StillLemmas
pub mod TurnLemmas
pub mod StandLemmas
pub mod EngineLemmas
pub mod NowLemmas
