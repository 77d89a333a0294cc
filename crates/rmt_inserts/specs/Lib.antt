pub use Rattle.rmt_table_model.specs.Inserts
pub mod Inside
pub mod Numbers
pub mod Unlocks
pub mod Windows
