pub mod Ranges
pub mod Chosen
