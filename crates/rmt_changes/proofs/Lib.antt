pub mod TokenOrder
pub mod CommandLaws
pub mod ChangeLaws
pub mod PassLaws
pub mod DueLemmas
pub mod Depths
pub mod CommandSizes
