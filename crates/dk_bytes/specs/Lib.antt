pub mod Fields
pub mod Checksum
pub mod Reading
pub mod PlainValue
pub mod ColumnFields
pub mod RowFields
pub mod Bits
pub mod Bodies
