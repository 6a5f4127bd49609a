pub mod Answers
pub mod Segments
