pub mod WordTexts
pub mod Judgements
pub mod WholePages
