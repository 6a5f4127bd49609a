pub mod DrawingLemmas
pub mod LineLemmas
