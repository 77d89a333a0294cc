pub mod BuilderLemmas
pub mod LeadLemmas
pub mod OrderLemmas
pub mod PlacesLemmas
pub mod RowsLemmas
pub mod TextLemmas
pub mod TypedLemmas
