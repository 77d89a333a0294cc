pub use Rattle.rmt_model.specs.Laws
pub use Rattle.rmt_model.specs.Fair
pub use Rattle.rmt_model.specs.Quorum
