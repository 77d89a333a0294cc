pub use Rattle.std.specs.Io.KnownBytes
pub mod Faults
pub mod StreamBytes
pub mod StreamViews
