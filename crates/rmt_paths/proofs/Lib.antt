mod PathLemmas
pub mod NameLemmas
mod TextLemmas
pub mod OrderLemmas
pub mod ChildRangeLemmas
