pub mod PendingLemmas
pub mod MutationLemmas
pub mod TurnLemmas
