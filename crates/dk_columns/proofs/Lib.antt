pub mod CopyLemmas
pub mod MaskLemmas
pub mod OptionsLemmas
pub mod StoredLemmas
pub mod ColumnLemmas
pub mod PutLemmas
pub mod RowLemmas
