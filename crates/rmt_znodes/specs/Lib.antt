pub use Rattle.rmt_tree.specs.Trees
pub use Rattle.rmt_tree.specs.Ops
pub mod Znodes
pub mod ZnodeStates
