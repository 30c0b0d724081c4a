pub mod RunLemmas
pub mod RunBodyLemmas
pub mod RunLoopLemmas
pub mod ConstantLemmas
pub mod RunFaultLemmas
pub mod NumberRunLemmas
