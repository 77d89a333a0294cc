mod ListLemmas
pub mod NameLemmas
pub mod ChildLemmas
mod ReadLemmas
pub mod BelowLemmas
mod KeptLemmas
mod DropLemmas
mod LimitLemmas
mod TakeLemmas
mod WindowLemmas
