pub mod NumeralLemmas
pub mod SplittingLemmas
