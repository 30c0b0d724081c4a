pub mod CallLemmas
pub mod ChangeLemmas
pub mod ImageLemmas
pub mod OutcomeLemmas
pub mod OverlayLemmas
pub mod ReplacementLemmas
pub mod ReplayLemmas
pub mod StepLemmas
