pub mod RowLemmas
pub mod FieldLemmas
pub mod NumberLemmas
pub mod LineLawLemmas
