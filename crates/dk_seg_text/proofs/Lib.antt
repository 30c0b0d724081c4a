pub mod ValueLemmas
pub mod TextLemmas
pub mod CodeLemmas
pub mod MeasureLemmas
pub mod EntryLemmas
pub mod RoundTripLemmas
pub mod DecodeLemmas
pub mod TextFaultLemmas
