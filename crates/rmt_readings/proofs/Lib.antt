pub mod DropTests
pub mod CheckLemmas
pub mod CallerLemmas
pub mod QuorumLemmas
