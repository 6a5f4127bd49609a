pub mod StandingLemmas
pub mod Wrote
