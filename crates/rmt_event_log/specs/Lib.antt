pub use Rattle.rmt_names.specs.Names
pub mod EventLogs
pub mod Inside
