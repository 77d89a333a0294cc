pub mod Sorting
pub mod Totals
pub mod Fitting
pub mod Making
pub mod NameSets
