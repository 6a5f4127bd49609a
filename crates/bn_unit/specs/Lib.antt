pub mod Dropping
pub mod Holding
pub mod Memory
