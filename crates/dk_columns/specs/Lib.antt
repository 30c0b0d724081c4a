pub mod Flags
pub mod Options
pub mod Columns
pub mod Stored
pub mod OptionTables
pub mod Equal
