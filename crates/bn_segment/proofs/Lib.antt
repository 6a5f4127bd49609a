pub mod Filled
pub mod ReadTexts
