pub mod Evictions
pub mod Tables
