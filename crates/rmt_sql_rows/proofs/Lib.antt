pub mod Consumed
pub mod Digits
pub mod Fields
pub mod Steps
pub mod Fitting
pub mod Parts
pub mod Puts
