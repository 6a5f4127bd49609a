pub mod EvictionLemmas
pub mod MapSteps
pub mod SearchLemmas
pub mod TableLemmas
