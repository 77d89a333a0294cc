pub mod Crosses
pub mod NamedLemmas
pub mod BlockLemmas
pub mod CallLemmas
pub mod AppendLemmas
pub mod InstallLemmas
pub mod NamedSupplies
pub mod OutsideLemmas
mod NewTables
