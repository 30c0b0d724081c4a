pub mod BodyLemmas
pub mod RankLemmas
pub mod RoundTripLemmas
pub mod DecodeLemmas
pub mod PackedFaultLemmas
pub mod AboveLemmas
