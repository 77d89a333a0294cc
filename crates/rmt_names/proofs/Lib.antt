pub mod DecimalLemmas
pub mod FieldLemmas
pub mod TextLemmas
pub mod MergeLemmas
pub mod PartitionTexts
