pub use Rattle.rmt_pass.specs.Passes
pub use Rattle.rmt_pass.specs.InsertSteps
pub mod Crews
pub mod CrewInserts
pub mod CrewOptimizes
pub mod CrewWaits
pub mod Closing
pub mod Settled
