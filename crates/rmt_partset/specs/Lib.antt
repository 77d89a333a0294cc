pub use Rattle.rmt_granules.specs.Granules
pub use Rattle.rmt_names.specs.Names
pub use Rattle.rmt_model.specs.Words
pub use Rattle.rmt_model.specs.Live
pub use Rattle.rmt_part.specs.Lineages
pub mod Snapshots
pub mod ActiveParts
