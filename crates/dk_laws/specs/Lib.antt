pub mod KindLaws
pub mod ReceiptLaws
pub mod SessionLaws
pub mod ConflictLaws
pub mod FittingNets
