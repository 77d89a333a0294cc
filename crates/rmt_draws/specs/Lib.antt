pub use Rattle.rmt_events.specs.Draws
pub use Rattle.rmt_replica.specs.SeenReplica
pub mod Turns
