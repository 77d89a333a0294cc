pub mod EntryLemmas
pub mod MutationLemmas
pub mod JobLemmas
