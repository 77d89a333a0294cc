pub use Rattle.rmt_acting.specs.Acting
pub use Rattle.rmt_pass.specs.Passes
pub use Rattle.rmt_shared.specs.SharedTables
pub mod ThreadedTables
