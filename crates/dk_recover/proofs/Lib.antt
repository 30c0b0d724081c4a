pub mod TellingLemmas
pub mod PageLemmas
pub mod TreeLemmas
pub mod TableLemmas
pub mod HeaderLemmas
pub mod ColumnLemmas
pub mod TestLemmas
