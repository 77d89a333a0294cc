pub use Rattle.rmt_names.specs.Names
pub use Rattle.rmt_model.specs.Words
pub use Rattle.rmt_model.specs.Live
pub mod NameSets
