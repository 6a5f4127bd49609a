pub mod ExitCodes
pub mod Numbers
pub mod Numerals
pub mod Registers
pub mod Splitting
pub mod Visible
