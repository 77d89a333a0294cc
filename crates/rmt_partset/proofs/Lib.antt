pub mod PartLists
pub mod Replacing
