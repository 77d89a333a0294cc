pub mod Ranges
pub mod Placing
