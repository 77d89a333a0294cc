pub use Rattle.rmt_table.specs.TableTrees
pub use Rattle.rmt_events.specs.Steps
pub mod States
pub mod NewStates
pub mod Pulls
pub mod Notes
pub mod Causes
