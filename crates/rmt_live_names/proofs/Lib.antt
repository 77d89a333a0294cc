pub mod PartitionLists
pub mod PartitionNames
pub mod MutationTokens
