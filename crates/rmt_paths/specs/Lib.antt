pub mod Paths
pub mod PathOrder
pub mod ChildRange
pub mod PathReading
