pub mod BodyLemmas
pub mod NullLemmas
pub mod ChoiceLemmas
pub mod SegmentLemmas
pub mod NumberSizeLemmas
pub mod ColumnNumberLemmas
pub mod MaskedLemmas
