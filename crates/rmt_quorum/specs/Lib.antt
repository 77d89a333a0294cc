pub use Rattle.rmt_model.specs.Quorum
pub mod QuorumNodes
