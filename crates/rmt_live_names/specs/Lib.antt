pub use Rattle.rmt_history.specs.Copies
pub use Rattle.rmt_history.specs.Mutations
pub use Rattle.rmt_changes.specs.Changes
pub use Rattle.rmt_changes.specs.Laws
pub use Rattle.rmt_statement_model.specs.Optimizes
pub mod Places
