pub use Rattle.rmt_names.specs.Names
pub use Rattle.rmt_partset.specs.Snapshots
pub use Rattle.rmt_statement_model.specs.Reads
