pub mod Caching
pub mod Marking
pub mod Sweeping
