pub mod Clients
pub mod ClientBlocks
pub mod ClientReadings
