pub use Rattle.rmt_bytes.specs.Encoding
pub mod SmallCommands
