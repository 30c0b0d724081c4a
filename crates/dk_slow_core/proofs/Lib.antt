pub mod EventLemmas
pub mod PlaceLemmas
pub mod PointLemmas
pub mod ChangeLemmas
pub mod BoundLemmas
pub mod FitsLemmas
pub mod OutcomeLemmas
