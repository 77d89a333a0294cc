pub mod GranuleLemmas
pub mod RangeLemmas
pub mod ReadLemmas
pub mod AgainLemmas
pub mod PartLemmas
pub mod CallerLemmas
