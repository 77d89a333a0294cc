pub mod OwnParts
pub mod StagedParts
pub mod BlockHolders
pub mod SearchLemmas
pub mod TakenLemmas
