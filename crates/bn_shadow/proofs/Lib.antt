pub mod CountLemmas
pub mod DropLemmas
pub mod GivingLemmas
