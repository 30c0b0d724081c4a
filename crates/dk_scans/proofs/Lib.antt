pub mod SelectionLemmas
pub mod FoldLemmas
pub mod CountLemmas
pub mod ExtremeLemmas
pub mod TextLemmas
