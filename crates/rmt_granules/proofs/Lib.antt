pub mod Marks
pub mod Made
pub mod StableOrder
pub mod MergeStep
pub mod MergeLemmas
pub mod ColumnLemmas
pub mod FitLemmas
pub mod LeadingLemmas
