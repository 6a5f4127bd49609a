pub mod CacheLemmas
pub mod MapSteps
pub mod Newest
pub mod SetLemmas
pub mod HeldSlots
pub mod MarkLemmas
