pub mod RestedTables
pub mod ThreadedLemmas
pub mod InsertLemmas
pub mod ReadLemmas
