pub mod Fieldwise
pub mod ReadingLemmas
pub mod RoundTrip
pub mod ValueLemmas
