pub use Rattle.rmt_statement_model.specs.Books
pub use Rattle.rmt_supply.specs.TakenParts
pub mod SharedTables
pub mod ClientCalls
pub mod SharedReplicas
pub mod ReplicaSupplies
