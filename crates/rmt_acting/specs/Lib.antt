pub use Rattle.rmt_acts.specs.StatementEvents
pub use Rattle.rmt_statement_model.specs.Shows
pub use Rattle.rmt_statement_model.specs.Rests
pub use Rattle.rmt_statement_model.specs.ActOutcomes
pub mod Acting
pub mod Stepped
