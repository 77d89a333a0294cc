pub use Rattle.rmt_model.specs.Quorum
pub use Rattle.rmt_history.specs.Copies
pub use Rattle.rmt_queue.specs.Marks
pub use Rattle.rmt_table.specs.TableTrees
pub use Rattle.rmt_statement_model.specs.TableStates
pub use Rattle.rmt_clients.specs.Clients
pub mod KnownTables
