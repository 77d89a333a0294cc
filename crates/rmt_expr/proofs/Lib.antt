pub mod SetLemmas
pub mod QueryLemmas
pub mod Progress
pub mod UpdateLemmas
pub mod PassLemmas
