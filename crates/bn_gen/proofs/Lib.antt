pub mod ImageLoading
pub mod PartLemmas
pub mod ScriptReading
pub mod TallyLemmas
pub mod TextLemmas
pub mod WordSizes
