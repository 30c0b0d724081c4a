pub mod FindLemmas
pub mod NodeLemmas
pub mod StampLemmas
