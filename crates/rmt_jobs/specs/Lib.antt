pub use Rattle.rmt_table_model.specs.Kept
pub use Rattle.rmt_events.specs.Draws
pub use Rattle.rmt_replica.specs.Replicas
pub use Rattle.rmt_replica.specs.Answers
pub mod Jobs
