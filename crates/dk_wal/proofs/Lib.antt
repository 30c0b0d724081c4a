mod PutLemmas
mod LengthLemmas
mod WritableLemmas
mod AscendingLemmas
mod FrontLemmas
mod ReadingLemmas
mod LogLemmas
mod CutLemmas
mod ChanceLemmas
mod AppendLemmas
mod WeightLemmas
mod GrammarLemmas
pub mod CountedLemmas
pub mod PayloadLemmas
