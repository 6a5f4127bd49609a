pub mod Keeping
pub mod Leading
pub mod Looking
pub mod Moving
pub mod Starting
pub mod Writing
