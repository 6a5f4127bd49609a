pub mod HandoverLemmas
pub mod IdBounds
pub mod SeatLemmas
