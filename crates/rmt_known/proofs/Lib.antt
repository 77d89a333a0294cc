pub mod MarkLemmas
pub mod CoveringLemmas
pub mod QuorumLemmas
pub mod NumberLemmas
pub mod CallerLemmas
