pub mod StringLemmas
pub mod SegmentLemmas
pub mod PageLemmas
pub mod TreeLemmas
pub mod ChainLemmas
pub mod ListLemmas
