pub mod BlockLemmas
pub mod BytesLemmas
pub mod GroupLemmas
pub mod IdLemmas
pub mod SplitLemmas
pub mod SpellingLemmas
