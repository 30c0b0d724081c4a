pub mod PartsLemmas
pub mod SlotsLemmas
pub mod ValuesLemmas
pub mod RowLemmas
