pub use Rattle.rmt_compact.specs.NewParts
pub use Rattle.rmt_replica.specs.Answers
pub use Rattle.rmt_events.specs.ApplyEvents
pub mod PartSources
pub mod TakenParts
