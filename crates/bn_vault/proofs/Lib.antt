pub mod MomentLemmas
pub mod OpeningLemmas
